use Rattle.std.proofs.Common.{length}
use Rattle.svcb_values.specs.ValueReading.{read_v4}
use Rattle.svcb_values.proofs.AddressLists.{IsSoFar}
use Rattle.svcb_values.proofs.hints.read_v4s.Given as goal

abbrev pub invariant-loop-item : goal.invariant-loop-item
invariant-loop-item l = IsSoFar read_v4 l.text l.addresses (length l.yielded)
