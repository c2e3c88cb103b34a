use Rattle.std.proofs.Common.{◌≡◌, ◌+◌, drop}
use Rattle.altroute_show.specs.FrameSteps.{frames_size}
use Rattle.altroute_show.proofs.frame_steps.frames_size.Given as goal

abbrev pub invariant-loop-frame : goal.invariant-loop-frame
invariant-loop-frame l = l.size + frames_size (drop l.frame-index l.frames) ≡ frames_size l.frames
