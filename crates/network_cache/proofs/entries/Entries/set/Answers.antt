use Rattle.std.proofs.Common.{◌&&◌, ◌||◌, not, cond, List, refl, ap, sym, ◌∙◌}
use Rattle.std.specs.List.{list_any}
use Rattle.origin_values.specs.Equality.{origin_eq}
use Rattle.origin_values.specs.declared.origin.Origin.{Origin}
use Rattle.origin_values.proofs.Equal.{turned_origin}
use Rattle.network_cache.specs.declared.kept.Kept.{Kept}
use Rattle.network_cache.specs.Ends.{ends_at}
use Rattle.network_cache.specs.Queue.{is_queued}
use Rattle.network_cache.specs.Entries.{kept_among}
use Rattle.network_cache.proofs.Order.{replaced}
use Rattle.network_cache.proofs.Lookups.{same_kept, any_over, put_over}
use Rattle.network_cache.proofs.entries.Entries.set.Goals as goal

pub invariant_of-self-2 : goal.invariant_of-self-2
invariant_of-self-2 c = record {
  queued = λ e o.
      let es = c.reserve.new.self.entries in
      let key = c.args.origin in
      let alternatives = c.args.alternatives in
      let before = kept_among es key in
      let here = kept_among es o in
      let ends = list_any (ends_at e) alternatives in
      let was = is_queued c.args.self.now.queue e o in
      let entered = is_queued c.enter_all.new.queue e o in
      let queued = c.args.self.now.queued e o ∙ ap (λ xs. list_any (ends_at e) (kept_among xs o)) (sym c.in_ok-reserve.ensures.entries) in
      let enter = c.in_ok-enter_all.ensures.ok e o ∙ ap (λ (ks : List Kept). (origin_eq key o && list_any (ends_at e) ks) || was) c.as_slice.ensures ∙ ap (λ w. (origin_eq key o && ends) || w) queued in
      let placed = c.place.ensures o ∙ ap (λ (x : Origin). cond (origin_eq o x) alternatives (kept_among c.take-before.new.index.entries o)) c.leave-origin.ensures.origin
      ∙ ap (cond (origin_eq o key) alternatives) (c.take-before.ensures.others o) ∙ put_over (origin_eq o key) alternatives here in
      c.leave-origin.ensures.queue e o
      ∙ ap (λ (ks : List Kept). not (origin_eq key o && (list_any (ends_at e) ks && not (list_any (ends_at e) c.as_slice-3.result.now))) && entered) (c.as_slice-2.ensures ∙ c.take-before.ensures.taken)
      ∙ ap (λ (ks : List Kept). not (origin_eq key o && (list_any (ends_at e) before && not (list_any (ends_at e) ks))) && entered) c.as_slice-3.ensures
      ∙ ap (λ w. not (origin_eq key o && (list_any (ends_at e) before && not ends)) && w) enter
      ∙ replaced (origin_eq key o) ends (list_any (ends_at e) before) (list_any (ends_at e) here) (λ same. ap (list_any (ends_at e)) (same_kept es key o before refl same))
      ∙ ap (λ w. cond w ends (list_any (ends_at e) here)) (turned_origin key o)
      ∙ any_over (ends_at e) (origin_eq o key) alternatives here
      ∙ ap (list_any (ends_at e)) (sym placed);
}
