use Rattle.coalescing.specs.Lists.{list_at}
use Rattle.coalescing.specs.Peers.{peer_eq}
use Rattle.coalescing.specs.ByAddress.{is_other}
use Rattle.coalescing.proofs.Listed.{narrowed_so_far}
use Rattle.coalescing.proofs.by_peer.drop_from.Goals as goal

pub loop-peer-preserved : goal.loop-peer-preserved
loop-peer-preserved c = λ p.
    narrowed_so_far (is_other c.args.conn) c.args.peers.now c.loop-peer.peer-index _ p (list_at peer_eq c.args.by_peer.now p) (list_at peer_eq c.loop-peer.by_peer p) (list_at peer_eq c.drop_at.new.by_peer p)
    c.loop-peer-test.true (c.drop_at.ensures p) (c.loop-peer.invariant p)
