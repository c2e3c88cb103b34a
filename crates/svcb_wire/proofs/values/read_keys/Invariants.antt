use Rattle.std.proofs.Common.{◌≡◌, [], length}
use Rattle.svcb_wire.specs.ValueReading.{keys_behind}
use Rattle.svcb_wire.proofs.values.read_keys.Given as goal

abbrev pub invariant-loop-rest : goal.invariant-loop-rest
invariant-loop-rest l = keys_behind l.keys l.last l.rest ≡ keys_behind [] 0 l.value

abbrev pub decreases-loop-rest : goal.decreases-loop-rest
decreases-loop-rest l = length l.rest
