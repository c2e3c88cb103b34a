use Rattle.std.proofs.Common.{nat_eq, Some, ap, sym, ◌∙◌}
use Rattle.std.specs.List.{list_any}
use Rattle.std.specs.Map.{lookup}
use Rattle.coalescing.specs.declared.peer.Peer.{Peer}
use Rattle.coalescing.specs.Lists.{items_of, list_at}
use Rattle.coalescing.specs.Peers.{peer_of, peer_eq, is_among}
use Rattle.coalescing.specs.ByAddress.{connections_at}
use Rattle.coalescing.proofs.Noted.{noted_left, dropped, none_dropped}
use Rattle.coalescing.proofs.address_index.AddressIndex.remove.Goals as goal

pub returns-in_default : goal.returns-in_default
unfolding connections_at
returns-in_default c = λ a p.
    let conn = c.args.conn in
    let index = c.args.self.now in
    let peer : Peer = peer_of a p in
    none_dropped conn peer (list_at peer_eq index.numbers peer) (lookup (nat_eq conn) index.peers.entries) c.in_default.ensures.value (index.noted conn peer)

pub invariant_of-self-2 : goal.invariant_of-self-2
invariant_of-self-2 c = record {
  noted = λ n peer h.
      let conn = c.args.conn in
      let index = c.args.self.now in
      let before = list_at peer_eq index.numbers peer in
      let left = dropped conn peer before (list_at peer_eq c.drop_from.new.by_peer peer) c.as_slice.result.now (lookup (nat_eq conn) index.peers.entries) (c.drop_from.ensures peer) (ap Some c.as_slice.ensures ∙ c.in-Some.ensures.value) (index.noted conn peer) in
      ap (λ o. is_among (items_of o) peer) (c.swap_remove.ensures.updates.0 n)
      ∙ noted_left conn n peer before (lookup (nat_eq n) index.peers.entries) (index.noted n peer) (sym (ap (list_any (nat_eq n)) left) ∙ h);
}

pub returns : goal.returns
unfolding connections_at
returns c = λ a p.
    let conn = c.args.conn in
    let index = c.args.self.now in
    let peer : Peer = peer_of a p in
    dropped conn peer (list_at peer_eq index.numbers peer) (list_at peer_eq c.drop_from.new.by_peer peer) c.as_slice.result.now (lookup (nat_eq conn) index.peers.entries) (c.drop_from.ensures peer) (ap Some c.as_slice.ensures ∙ c.in-Some.ensures.value) (index.noted conn peer)
