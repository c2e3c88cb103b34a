use Rattle.std.proofs.Common.{◌≡◌, ◌++◌, drop}
use Rattle.origin_frame.specs.PayloadWritten.{payload_of}
use Rattle.origin_frame.proofs.written.payload.Given as goal

abbrev pub invariant-loop-origin : goal.invariant-loop-origin
invariant-loop-origin l = l.octets.items ++ payload_of (drop l.origin-index l.origins) ≡ payload_of l.origins
