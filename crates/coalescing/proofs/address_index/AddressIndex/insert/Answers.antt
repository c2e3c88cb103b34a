use Rattle.std.proofs.Common.{nat_eq, List, refl, ap, ◌∙◌}
use Rattle.std.proofs.lemmas.Result.{on_ok_weaker, on_err_weaker}
use Rattle.alt_base.proofs.Variants.{on_err}
use Rattle.coalescing.specs.declared.peer.Peer.{Peer}
use Rattle.coalescing.specs.Lists.{list_at}
use Rattle.coalescing.specs.Peers.{peer_of, peer_eq, is_among}
use Rattle.coalescing.specs.ByAddress.{connections_at}
use Rattle.coalescing.proofs.Listed.{same_lists, appended}
use Rattle.coalescing.proofs.Noted.{noted_either}
use Rattle.coalescing.proofs.address_index.AddressIndex.insert.Goals as goal

pub returns-in_err-append-clause-as_before : goal.returns-in_err-append-clause-as_before
unfolding connections_at
returns-in_err-append-clause-as_before c = on_err c.from_residual.result _ (λ a p. refl)

pub invariant_of-self-2 : goal.invariant_of-self-2
invariant_of-self-2 c = record {
  noted = λ n p h.
      let index = c.args.self.now in
      let conn = c.args.conn in
      let peer : Peer = peer_of c.args.addr c.args.port in
      let before = index.numbers.entries in
      let after = c.append-2.new.lists.entries in
      ap (λ (peers : List Peer). is_among peers p) (c.in_ok-append.ensures.ok n)
      ∙ noted_either c.append-2.result conn n peer p (list_at peer_eq index.numbers p) (list_at peer_eq c.append-2.new.lists p) (list_at nat_eq index.peers n)
      (on_ok_weaker c.append-2.result (λ all. appended before after peer conn all p) c.append-2.ensures.ok) (on_err_weaker c.append-2.result (λ all. same_lists before after all p) c.append-2.ensures.err) (index.noted n p) h;
}

pub returns-in_err-append-2-clause-as_before : goal.returns-in_err-append-2-clause-as_before
unfolding connections_at
returns-in_err-append-2-clause-as_before c =
    on_err c.from_residual-in_err-append-2.result _ (λ a p. same_lists c.args.self.now.numbers.entries c.append-2.new.lists.entries c.in_err-append-2.ensures.err (peer_of a p))

pub returns-clause-placed : goal.returns-clause-placed
unfolding connections_at
returns-clause-placed c = λ a p. appended c.args.self.now.numbers.entries c.append-2.new.lists.entries (peer_of c.args.addr c.args.port) c.args.conn c.in_ok-append-2.ensures.ok (peer_of a p)
