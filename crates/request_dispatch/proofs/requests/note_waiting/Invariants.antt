use Rattle.std.proofs.Common.{◌≡◌, ◌++◌, map, take, drop}
use Rattle.request_dispatch.specs.RequestTable.{tried_after}
use Rattle.request_dispatch.proofs.requests.note_waiting.Given as goal

abbrev pub invariant-loop-request : goal.invariant-loop-request
invariant-loop-request l = l.waiting ≡ map (tried_after l.origin l.route) (take l.request-index l.fn.waiting) ++ drop l.request-index l.fn.waiting
