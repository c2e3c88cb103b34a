use Rattle.std.proofs.Common.{◌≡◌, ℕ, true, ◌&&◌, ap, sym, ◌∙◌, rules}
use Rattle.std.specs.Prelude.{◌==◌}
use Rattle.std.specs.List.{list_any}
use Rattle.std.specs.Ordering.{is_eq}
use Rattle.std.proofs.lemmas.Fn.{filter_same}
use Rattle.std.proofs.lemmas.Map.Views.{any-filter_same}
use Rattle.alt_base.proofs.Booleans.{first_of_both, second_of_both}
use Rattle.alt_base.proofs.Numbers.{true_eq}
use Rattle.origin_values.specs.Equality.{origin_eq}
use Rattle.origin_values.specs.declared.origin.Origin.{Origin}
use Rattle.origin_values.proofs.Equal.{true_origin}
use Rattle.network_cache.specs.Ends.{ends_at}
use Rattle.network_cache.specs.Queue.{place_cmp}
use Rattle.network_cache.specs.Entries.{kept_in}
use Rattle.network_cache.proofs.Order.{place_at}
use Rattle.network_cache.proofs.sweep.sweep.Goals as goal

pub returns : goal.returns
returns c = λ e o.
    let index = c.args.index.now in
    let stands = λ (p : ℕ × Origin). list_any (ends_at p.0) (kept_in index p.1) in
    let same : (p : ℕ × Origin) → is_eq (place_cmp (e, o) p) ≡ true → stands p ≡ stands (e, o) = λ p h.
    let both : ((e == p.0) && origin_eq o p.1) ≡ true = sym (place_at (e, o) p) ∙ h in
    ap (λ n. list_any (ends_at n) (kept_in index p.1)) (sym (true_eq e p.0 (first_of_both (e == p.0) (origin_eq o p.1) both)))
    ∙ ap (λ (x : Origin). list_any (ends_at e) (kept_in index x)) (sym (true_origin o p.1 (second_of_both (e == p.0) (origin_eq o p.1) both))) in
    ap (list_any (λ p. is_eq (place_cmp (e, o) p))) (filter_same _ stands _ (λ x b f' t. search rules) _ _ c.retain.ensures.filtered)
    ∙ any-filter_same (λ p. is_eq (place_cmp (e, o) p)) stands (stands (e, o)) same c.args.queue.now.keys
