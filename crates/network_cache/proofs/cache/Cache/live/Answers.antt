use Rattle.std.proofs.Common.{◌≡◌, ap, ◌∙◌, sym, subst, List, map, filter, IfOk}
use Rattle.std.specs.Option.{option_copied}
use Rattle.network_cache.specs.declared.kept.Kept.{Kept}
use Rattle.network_cache.specs.Freshness.{is_fresh}
use Rattle.network_cache.specs.Contents.{kept}
use Rattle.network_cache.specs.Entries.{all_of}
use Rattle.network_cache.proofs.cache.Cache.live.Goals as goal

pub returns-in-Some : goal.returns-in-Some
unfolding kept
returns-in-Some c =
    let there = c.as_slice.ensures ∙ sym (ap (λ x. all_of (option_copied x)) c.in-Some.is) ∙ c.of.ensures in
    subst (λ (ks : List Kept). IfOk c.fresh.result (λ alts. alts ≡ map (λ (k : Kept). k.alt) (filter (is_fresh c.args.now.0) ks))) there c.fresh.ensures

pub returns-in-None : goal.returns-in-None
unfolding kept
returns-in-None c =
    c.new.ensures ∙ ap (λ (ks : List Kept). map (λ (k : Kept). k.alt) (filter (is_fresh c.args.now.0) ks)) (sym (ap (λ x. all_of (option_copied x)) c.in-None.is) ∙ c.of.ensures)
