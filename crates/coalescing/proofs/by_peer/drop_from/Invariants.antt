use Rattle.std.proofs.Common.{◌≡◌, cond, filter, take}
use Rattle.coalescing.specs.declared.peer.Peer.{Peer}
use Rattle.coalescing.specs.Lists.{list_at}
use Rattle.coalescing.specs.Peers.{peer_eq, is_among}
use Rattle.coalescing.specs.ByAddress.{is_other}
use Rattle.coalescing.proofs.by_peer.drop_from.Given as goal

-- dropped at the peers so far
abbrev pub invariant-loop-peer : goal.invariant-loop-peer
invariant-loop-peer l = (p : Peer) → list_at peer_eq l.by_peer p ≡ cond (is_among (take l.peer-index l.fn.peers) p) (filter (is_other l.fn.conn) (list_at peer_eq l.fn.by_peer p)) (list_at peer_eq l.fn.by_peer p)
