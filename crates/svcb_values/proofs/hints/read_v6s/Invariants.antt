use Rattle.std.proofs.Common.{length}
use Rattle.svcb_values.specs.ValueReading.{read_v6}
use Rattle.svcb_values.proofs.AddressLists.{IsSoFar}
use Rattle.svcb_values.proofs.hints.read_v6s.Given as goal

abbrev pub invariant-loop-item : goal.invariant-loop-item
invariant-loop-item l = IsSoFar read_v6 l.text l.addresses (length l.yielded)
