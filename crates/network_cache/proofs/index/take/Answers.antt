use Rattle.std.proofs.Common.{None, ap, sym, ◌∙◌}
use Rattle.network_cache.specs.Entries.{all_of}
use Rattle.network_cache.proofs.Lookups.{looked_up, updated}
use Rattle.network_cache.proofs.index.take.Goals as goal

pub returns-in-Some-clause-taken : goal.returns-in-Some-clause-taken
returns-in-Some-clause-taken c = ap all_of c.in-Some.ensures.value ∙ sym (looked_up c.args.index.now.entries c.args.origin.now)

pub returns-in-Some-clause-others : goal.returns-in-Some-clause-others
returns-in-Some-clause-others c = λ o. updated c.args.index.now.entries c.swap_remove.new.self.entries c.args.origin.now o None (c.swap_remove.ensures.updates.0 o)

pub returns-in-None-clause-taken : goal.returns-in-None-clause-taken
returns-in-None-clause-taken c = c.new.ensures ∙ ap all_of c.in-None.ensures.value ∙ sym (looked_up c.args.index.now.entries c.args.origin.now)

pub returns-in-None-clause-others : goal.returns-in-None-clause-others
returns-in-None-clause-others c = λ o. updated c.args.index.now.entries c.swap_remove.new.self.entries c.args.origin.now o None (c.swap_remove.ensures.updates.0 o)
