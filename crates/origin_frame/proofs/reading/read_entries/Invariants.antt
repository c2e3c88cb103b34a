use Rattle.std.proofs.Common.{◌-◌, length}
use Rattle.origin_frame.proofs.Steps.{IsSoFar}
use Rattle.origin_frame.proofs.reading.read_entries.Given as goal

abbrev pub invariant-loop-place : goal.invariant-loop-place
invariant-loop-place l = IsSoFar l.payload l.listed l.place

abbrev pub decreases-loop-place : goal.decreases-loop-place
decreases-loop-place l = length l.payload - l.place
