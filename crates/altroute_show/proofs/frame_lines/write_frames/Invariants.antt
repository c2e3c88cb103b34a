use Rattle.std.proofs.Common.{◌≡◌, ◌++◌, drop}
use Rattle.altroute_show.specs.FrameLines.{frame_lines}
use Rattle.altroute_show.specs.FrameSteps.{AreShort}
use Rattle.altroute_show.proofs.frame_lines.write_frames.Given as goal

abbrev pub invariant-loop-frame : goal.invariant-loop-frame
invariant-loop-frame l = (l.text.items ++ frame_lines (drop l.frame-index l.frames) ≡ frame_lines l.frames) × AreShort (drop l.frame-index l.frames)
