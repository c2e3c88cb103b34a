use Rattle.std.proofs.Common.{None, ap, ◌∙◌}
use Rattle.coalescing.specs.Lists.{items_of}
use Rattle.coalescing.proofs.Listed.{changed, emptied}
use Rattle.coalescing.proofs.by_peer.drop_emptied.Goals as goal

pub returns-then-is_emptied : goal.returns-then-is_emptied
returns-then-is_emptied c = λ p.
    let es = c.args.by_peer.now.entries in
    ap items_of (changed es c.swap_remove.new.self.entries c.args.peer.now p None (c.swap_remove.ensures.updates.0 p)) ∙ emptied es c.args.peer.now p (c.is_emptied.ensures c.if-is_emptied.true)
