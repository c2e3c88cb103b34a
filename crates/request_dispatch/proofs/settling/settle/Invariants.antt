use Rattle.std.proofs.Common.{◌≡◌, ◌≤◌, ◌+◌, length}
use Rattle.request_dispatch.specs.ConnectionTable.{most_sends}
use Rattle.request_dispatch.specs.Looks.{look_of}
use Rattle.request_dispatch.specs.StepStates.{settle_over, settled}
use Rattle.request_dispatch.proofs.settling.settle.Given as goal

-- what is left settles as all do, and the counts leave room for it
abbrev pub invariant-loop-request : goal.invariant-loop-request
invariant-loop-request l =
    (settle_over (look_of l.cache l.broken l.answers l.now.0) l.state l.request-iterator.rest.items ≡ settled (look_of l.cache l.broken l.answers l.now.0) l.fn.state)
    × (l.state.tables.attempts.opened + length l.request-iterator.rest.items ≤ l.fn.state.tables.attempts.opened + length l.fn.state.tables.requests.waiting)
    × (most_sends l.state.tables.connections + length l.state.tables.requests.waiting + length l.request-iterator.rest.items ≤ most_sends l.fn.state.tables.connections + length l.fn.state.tables.requests.waiting)
