use Rattle.std.proofs.Common.{◌≡◌, ◌++◌, map, take, drop}
use Rattle.conn_states.specs.Changes.{with_answered}
use Rattle.request_dispatch.proofs.connection_changes.forget_request.Given as goal

abbrev pub invariant-loop-connection : goal.invariant-loop-connection
invariant-loop-connection l = l.connections ≡ map (with_answered l.request) (take l.connection-index l.fn.connections) ++ drop l.connection-index l.fn.connections
