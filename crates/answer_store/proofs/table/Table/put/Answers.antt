use Rattle.std.proofs.Common.{Some, None, true, false, cond, ◌&&◌, not, ◌==◌, ap, sym, refl, ◌≡◌, ◌∙◌, arith}
use Rattle.std.specs.BTreeSet.{contains}
use Rattle.std.specs.Map.{lookup}
use Rattle.indexmap.specs.IndexMap.{get}
use Rattle.alias_chain.specs.Held.{held_at}
use Rattle.answer_store.specs.Ends.{ends_at, is_taken_by}
use Rattle.dns_names.specs.Names.{name_eq}
use Rattle.answer_store.specs.Names.{name_cmp}
use Rattle.answer_store.specs.Queue.{place_cmp, is_place}
use Rattle.answer_store.proofs.Names.{same_names, matches}
use Rattle.answer_store.proofs.Places.{place_at, lookup_alike, replaced, requeued, taken_by_then}
use Rattle.answer_store.proofs.table.Table.put.Goals as goal

pub invariant_of-self-2-clause-queued : goal.invariant_of-self-2-clause-queued
invariant_of-self-2-clause-queued g c = λ e k.
    let eq = name_eq in
    let old = c.args.self.now in
    let end = c.end_of-end.result in
    let key = c.args.name in
    let o = get eq old.held k in
    let b = c.swap_remove-before.result in
    let h = held_at c.args.now.0 c.args.ttl c.args.body in
    let was : b ≡ get eq old.held key = c.swap_remove-before.ensures.value ∙ ap (lookup (eq key)) c.in_ok-reserve.ensures.entries in
    let before : eq key k ≡ true → b ≡ o = λ same. was ∙ lookup_alike eq same_names key k same old.held.entries in
    let without : get eq c.swap_remove-before.new.self k ≡ cond (eq key k) None o = c.swap_remove-before.ensures.updates.0 k ∙ ap (λ es. cond (eq key k) None (lookup (eq k) es)) c.in_ok-reserve.ensures.entries in
    let now : get eq c.insert-2.new.self k ≡ cond (eq key k) (Some h) o = (rw c.unwrap.ensures at c.insert-2.ensures.updates).0 k ∙ ap (λ x. cond (eq x k) (Some h) (get eq c.swap_remove-before.new.self k)) c.leave-name.ensures.name ∙ ap (cond (eq key k) (Some h)) without ∙ replaced (eq key k) h o in
    c.leave-name.ensures.queue e k
    ∙ ap (cond (eq key k && (ends_at e b && not (end == e))) false) (c.in_ok-insert.ensures.updates.0 (e, k)
    ∙ ap (λ w. cond w true (contains (place_cmp name_cmp) old.queue (e, k))) (place_at name_cmp eq matches (end, c.new-sorted.result) (e, k) ∙ ap (λ x. is_place eq (end, x) (e, k)) (c.new-sorted.ensures ∙ c.in_ok-twin.ensures))
    ∙ ap (cond (is_place eq (end, key) (e, k)) true) (old.queued e k))
    ∙ requeued eq key k e end b o h before c.end_of-end.ensures
    ∙ ap (ends_at e) (sym now)

pub invariant_of-self-2-clause-taken : goal.invariant_of-self-2-clause-taken
invariant_of-self-2-clause-taken g c = λ k.
    let eq = name_eq in
    let old = c.args.self.now in
    let key = c.args.name in
    let o = get eq old.held k in
    let h = held_at c.args.now.0 c.args.ttl c.args.body in
    let without : get eq c.swap_remove-before.new.self k ≡ cond (eq key k) None o = c.swap_remove-before.ensures.updates.0 k ∙ ap (λ es. cond (eq key k) None (lookup (eq k) es)) c.in_ok-reserve.ensures.entries in
    let now : get eq c.insert-2.new.self k ≡ cond (eq key k) (Some h) o = (rw c.unwrap.ensures at c.insert-2.ensures.updates).0 k ∙ ap (λ x. cond (eq x k) (Some h) (get eq c.swap_remove-before.new.self k)) c.leave-name.ensures.name ∙ ap (cond (eq key k) (Some h)) without ∙ replaced (eq key k) h o in
    ap (is_taken_by c.args.now.0) now ∙ taken_by_then (eq key k) old.newest c.args.now.0 o h (omega arith) refl (old.taken k)
