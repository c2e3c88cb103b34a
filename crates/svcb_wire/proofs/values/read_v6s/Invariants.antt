use Rattle.std.proofs.Common.{◌≡◌, [], length}
use Rattle.svcb_wire.specs.ValueReading.{first_address}
use Rattle.svcb_wire.proofs.Items.{reads}
use Rattle.svcb_wire.proofs.values.read_v6s.Given as goal

abbrev pub invariant-loop-rest : goal.invariant-loop-rest
invariant-loop-rest l = reads (first_address 16) l.addresses l.rest ≡ reads (first_address 16) [] l.value

abbrev pub decreases-loop-rest : goal.decreases-loop-rest
decreases-loop-rest l = length l.rest
