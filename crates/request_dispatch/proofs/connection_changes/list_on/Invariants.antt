use Rattle.std.proofs.Common.{◌≡◌, ◌++◌, map}
use Rattle.request_dispatch.specs.ConnectionTable.{listed_on}
use Rattle.request_dispatch.proofs.connection_changes.list_on.Given as goal

-- what is changed and what is left, once that is changed too, are all of them
abbrev pub invariant-loop-connection : goal.invariant-loop-connection
invariant-loop-connection l = l.changed.items ++ map (listed_on l.conn l.listed) l.connection-iterator.rest.items ≡ map (listed_on l.conn l.listed) l.fn.connections.items
