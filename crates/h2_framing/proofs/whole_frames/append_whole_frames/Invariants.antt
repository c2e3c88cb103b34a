use Rattle.std.proofs.Common.{◌≡◌, ◌≤◌, ◌-◌, ◌++◌, List, length, drop}
use Rattle.h2_framing.specs.declared.frame.Frame.{Frame}
use Rattle.h2_framing.specs.Frames.{AreFrames}
use Rattle.h2_framing.proofs.whole_frames.append_whole_frames.Given as goal

-- the frames so far are those in front of the place
abbrev pub invariant-loop-place : goal.invariant-loop-place
invariant-loop-place l = (l.place ≤ length l.octets) × (frames : List Frame) × (l.frames ≡ l.fn.frames ++ frames) × AreFrames l.octets frames (drop l.place l.octets)

abbrev pub decreases-loop-place : goal.decreases-loop-place
decreases-loop-place l = length l.octets - l.place
