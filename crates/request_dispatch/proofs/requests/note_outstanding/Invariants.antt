use Rattle.std.proofs.Common.{◌≡◌, ◌++◌, map, take, drop}
use Rattle.request_dispatch.specs.RequestTable.{out_tried_after}
use Rattle.request_dispatch.proofs.requests.note_outstanding.Given as goal

abbrev pub invariant-loop-request : goal.invariant-loop-request
invariant-loop-request l = l.outstanding ≡ map (out_tried_after l.origin l.route) (take l.request-index l.fn.outstanding) ++ drop l.request-index l.fn.outstanding
