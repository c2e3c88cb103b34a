use Rattle.std.proofs.Common.{◌≡◌, ◌++◌, drop}
use Rattle.altroute_show.specs.FrameLines.{spaced_origins}
use Rattle.altroute_show.proofs.frame_lines.put_origins.Given as goal

abbrev pub invariant-loop-origin : goal.invariant-loop-origin
invariant-loop-origin l = l.text.items ++ spaced_origins (drop l.origin-index l.origins) ≡ l.fn.text.items ++ spaced_origins l.origins
