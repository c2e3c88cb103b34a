use Rattle.std.proofs.Common.{length}
use Rattle.coalescing.proofs.Reading.{IsSoFar}
use Rattle.coalescing.proofs.names.read_items.Given as goal

abbrev pub invariant-loop-item : goal.invariant-loop-item
invariant-loop-item l = IsSoFar l.text l.names l.place (length l.yielded)
