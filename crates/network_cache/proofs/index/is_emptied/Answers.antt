use Rattle.std.proofs.Common.{ap, sym, ◌∙◌}
use Rattle.network_cache.specs.Entries.{all_of}
use Rattle.network_cache.proofs.Lookups.{looked_up, emptied}
use Rattle.network_cache.proofs.index.is_emptied.Goals as goal

pub returns-in-Some : goal.returns-in-Some
returns-in-Some c = λ empty.
    looked_up c.args.index.now.entries c.args.origin.now ∙ ap all_of (sym c.in-Some.ensures.value) ∙ emptied c.in-Some.all.now c.len.result c.len.ensures empty
