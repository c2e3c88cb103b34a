use Rattle.std.proofs.Common.{◌≡◌, ◌++◌, map, take, drop}
use Rattle.request_dispatch.specs.Asked.{asked_by}
use Rattle.request_dispatch.specs.ConnectionTable.{sent_on}
use Rattle.request_dispatch.proofs.connection_changes.send_on.Given as goal

abbrev pub invariant-loop-connection : goal.invariant-loop-connection
invariant-loop-connection l = l.connections ≡ map (sent_on (asked_by l.addresses).is_address (asked_by l.addresses).origin l.conn l.request) (take l.connection-index l.fn.connections) ++ drop l.connection-index l.fn.connections
