use Rattle.std.proofs.Common.{◌&&◌, false, not, cond, List, [], None, refl, ap, sym, ◌∙◌}
use Rattle.std.specs.List.{list_any}
use Rattle.origin_values.specs.Equality.{origin_eq}
use Rattle.origin_values.specs.declared.origin.Origin.{Origin}
use Rattle.origin_values.proofs.Equal.{turned_origin}
use Rattle.network_cache.specs.declared.kept.Kept.{Kept}
use Rattle.network_cache.specs.Ends.{ends_at}
use Rattle.network_cache.specs.Queue.{is_queued}
use Rattle.network_cache.specs.Entries.{all_of, kept_among}
use Rattle.network_cache.proofs.Order.{cleared}
use Rattle.network_cache.proofs.Lookups.{looked_up, updated, found_key, same_kept, any_over}
use Rattle.network_cache.proofs.entries.Entries.clear.Goals as goal

pub returns-in_default : goal.returns-in_default
returns-in_default c = λ o. updated c.args.self.now.items.entries c.swap_remove_entry.new.self.entries c.args.origin.now o None (c.swap_remove_entry.ensures.updates.0 o)

pub invariant_of-self-2 : goal.invariant_of-self-2
invariant_of-self-2 c = record {
  queued = λ e o.
      let es = c.args.self.now.items.entries in
      let key = c.args.origin.now in
      let all = c.as_slice.ensures ∙ ap all_of c.in-Some.ensures.value ∙ sym (looked_up es key) in
      let queued = is_queued c.args.self.now.queue e o in
      let there = list_any (ends_at e) (kept_among es key) in
      let ends = list_any (ends_at e) (kept_among es o) in
      let left = updated es c.swap_remove_entry.new.self.entries key o None (c.swap_remove_entry.ensures.updates.0 o) in
      c.leave.ensures.queue e o
      ∙ ap (λ (ks : List Kept). not (origin_eq c.in-Some.key o && (list_any (ends_at e) ks && not false)) && queued) all
      ∙ ap (λ (k : Origin). not (origin_eq k o && (there && not false)) && queued) (found_key es key c.in-Some.key c.in-Some.ensures.key)
      ∙ ap (λ w. not (origin_eq key o && (there && not false)) && w) (c.args.self.now.queued e o)
      ∙ cleared (origin_eq key o) there ends (λ same. ap (list_any (ends_at e)) (same_kept es key o (kept_among es key) refl same))
      ∙ ap (λ w. cond w false ends) (turned_origin key o)
      ∙ any_over (ends_at e) (origin_eq o key) [] (kept_among es o)
      ∙ ap (list_any (ends_at e)) (sym left);
}

pub returns : goal.returns
returns c = λ o. updated c.args.self.now.items.entries c.swap_remove_entry.new.self.entries c.args.origin.now o None (c.swap_remove_entry.ensures.updates.0 o)
