use Rattle.std.proofs.Common.{None, ◌∙◌}
use Rattle.network_cache.proofs.Lookups.{updated, none_kept}
use Rattle.network_cache.proofs.index.drop_emptied.Goals as goal

pub returns-then-is_emptied : goal.returns-then-is_emptied
returns-then-is_emptied c = λ o.
    let es = c.args.index.now.entries in
    updated es c.swap_remove.new.self.entries c.args.origin.now o None (c.swap_remove.ensures.updates.0 o) ∙ none_kept es c.args.origin.now o (c.is_emptied.ensures c.if-is_emptied.true)
