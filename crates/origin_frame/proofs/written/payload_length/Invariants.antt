use Rattle.std.proofs.Common.{◌≡◌, ◌+◌, ◌^◌, ◌<◌, length, drop}
use Rattle.origin_frame.specs.PayloadWritten.{payload_of, capped}
use Rattle.origin_frame.proofs.written.payload_length.Given as goal

abbrev pub invariant-loop-origin : goal.invariant-loop-origin
invariant-loop-origin l = (l.length < 2 ^ 64) × (capped (l.length + length (payload_of (drop l.origin-index l.origins))) ≡ capped (length (payload_of l.origins)))
