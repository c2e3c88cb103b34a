use Rattle.std.proofs.Common.{None, Some, ap, sym, ◌∙◌}
use Rattle.coalescing.specs.Lists.{items_of, list_at}
use Rattle.coalescing.specs.Peers.{peer_eq}
use Rattle.coalescing.specs.ByAddress.{is_other}
use Rattle.coalescing.proofs.Listed.{looked_up, changed, found_there, narrowed, none_narrowed}
use Rattle.coalescing.proofs.by_peer.drop_at.Goals as goal

pub returns-in_default : goal.returns-in_default
returns-in_default c = λ p.
    let es = c.args.by_peer.now.entries in
    let key = c.args.peer.now in
    ap (λ index. list_at peer_eq index p) c.get_mut.follows.holds-at-none ∙ none_narrowed (is_other c.args.conn) es key p (sym (looked_up es key None c.in_default.ensures.value))

pub returns : goal.returns
returns c = λ p.
    let es = c.args.by_peer.now.entries in
    let key = c.args.peer.now in
    let list = c.in-Some.numbers.now in
    let left = c.without.new.list in
    c.drop_emptied.ensures p
    ∙ ap items_of (changed es (c.get_mut.follows.lender left).entries key p (Some left) (((c.get_mut.follows.holds left).3 (found_there list c.in-Some.ensures.value)).0 p))
    ∙ narrowed (is_other c.args.conn) es key p list left (looked_up es key (Some list) c.in-Some.ensures.value) c.without.ensures
