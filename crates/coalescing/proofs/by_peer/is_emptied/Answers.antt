use Rattle.std.proofs.Common.{Some, ap, sym, ◌∙◌}
use Rattle.std.proofs.lemmas.List.{nil_from_length}
use Rattle.alt_base.proofs.Numbers.{true_eq}
use Rattle.coalescing.specs.Lists.{items_of}
use Rattle.coalescing.proofs.Listed.{looked_up}
use Rattle.coalescing.proofs.by_peer.is_emptied.Goals as goal

pub returns-in-Some : goal.returns-in-Some
returns-in-Some c = λ empty.
    let numbers = c.in-Some.numbers.now in
    ap items_of (sym (looked_up c.args.by_peer.now.entries c.args.peer.now (Some numbers) c.in-Some.ensures.value))
    ∙ nil_from_length numbers (sym c.len.ensures ∙ true_eq c.len.result 0 empty)
