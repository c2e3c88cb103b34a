use Rattle.std.proofs.Common.{◌≡◌, ◌++◌, map, take, drop}
use Rattle.request_dispatch.specs.ConnectionTable.{misdirected_by}
use Rattle.request_dispatch.proofs.connection_changes.misdirect_all.Given as goal

abbrev pub invariant-loop-connection : goal.invariant-loop-connection
invariant-loop-connection l = l.connections ≡ map (misdirected_by l.request l.origin) (take l.connection-index l.fn.connections) ++ drop l.connection-index l.fn.connections
