use Rattle.std.proofs.Common.{ap, ◌∙◌, List, cond, refl}
use Rattle.origin_values.specs.Equality.{origin_eq}
use Rattle.network_cache.specs.declared.kept.Kept.{Kept}
use Rattle.network_cache.specs.Contents.{kept, newest_moment}
use Rattle.network_cache.specs.Entries.{kept_in}
use Rattle.network_cache.proofs.cache.Cache.set.Goals as goal
use Rattle.alt_base.proofs.Variants.{on_err}

pub returns-in_err-set-clause-as_before : goal.returns-in_err-set-clause-as_before
unfolding kept newest_moment
returns-in_err-set-clause-as_before c = on_err c.from_residual-in_err-set.result _ (record { kept = c.in_err-set.ensures.err; moment = refl })

pub returns-clause-placed : goal.returns-clause-placed
unfolding kept
returns-clause-placed c = λ o.
    c.in_ok-set.ensures.ok o
    ∙ ap (λ (ks : List Kept). cond (origin_eq o c.args.origin) ks (kept_in c.args.self.now.entries.items o)) c.in_ok-alternatives.ensures

pub returns-clause-moment : goal.returns-clause-moment
unfolding newest_moment
returns-clause-moment c = refl
