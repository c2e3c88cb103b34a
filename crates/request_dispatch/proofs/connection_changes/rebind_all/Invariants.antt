use Rattle.std.proofs.Common.{◌≡◌, ◌++◌, map, take, drop}
use Rattle.request_dispatch.specs.ConnectionTable.{rebound}
use Rattle.request_dispatch.proofs.connection_changes.rebind_all.Given as goal

abbrev pub invariant-loop-connection : goal.invariant-loop-connection
invariant-loop-connection l = l.connections ≡ map (rebound l.origin l.alts) (take l.connection-index l.fn.connections) ++ drop l.connection-index l.fn.connections
