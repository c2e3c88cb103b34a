use Rattle.std.proofs.Common.{◌≡◌, ap, cond, false, true, None, sym, ◌∙◌, arith}
use Rattle.indexmap.specs.IndexMap.{get}
use Rattle.alias_chain.specs.Held.{in_force}
use Rattle.answer_store.specs.Ends.{ends_at, is_taken_by}
use Rattle.dns_names.specs.Names.{name_eq}
use Rattle.answer_store.specs.Queue.{is_place}
use Rattle.answer_store.specs.Tables.{at}
use Rattle.answer_store.proofs.Names.{same_names}
use Rattle.answer_store.proofs.Places.{lookup_alike, taken_out, taken_later, taken_still, none_in_force, dropped, all_in_force}
use Rattle.answer_store.proofs.table.Table.purge.Goals as goal

pub invariant_of-self-clause-queued : goal.invariant_of-self-clause-queued
invariant_of-self-clause-queued g c = λ e k.
    let eq = name_eq in
    let table = c.loop-place.self in
    let p = c.in-Some.place in
    let had = get eq table.held p.1 in
    let ends : ends_at p.0 had ≡ true = sym (table.queued p.0 p.1) ∙ c.in-Some.ensures.member in
    c.in-Some.ensures.others e k
    ∙ ap (cond (is_place eq p (e, k)) false) (table.queued e k)
    ∙ taken_out eq p.1 k p.0 e had (get eq table.held k) (λ same. lookup_alike eq same_names p.1 k same table.held.entries) ends
    ∙ ap (ends_at e) (sym (c.swap_remove.ensures.updates.0 k ∙ ap (λ x. cond (eq x k) None (get eq table.held k)) c.name.ensures))

pub invariant_of-self-clause-taken : goal.invariant_of-self-clause-taken
invariant_of-self-clause-taken g c = λ k.
    let eq = name_eq in
    let table = c.loop-place.self in
    ap (is_taken_by table.newest) (c.swap_remove.ensures.updates.0 k ∙ ap (λ x. cond (eq x k) None (get eq table.held k)) c.name.ensures) ∙ taken_still (eq c.in-Some.place.1 k) table.newest (get eq table.held k) (table.taken k)

pub loop-place-preserved : goal.loop-place-preserved
loop-place-preserved g c =
    let eq = name_eq in
    let table = c.loop-place.self in
    let p = c.in-Some.place in
    let now = c.args.now.0 in
    let had = get eq table.held p.1 in
    let ends : ends_at p.0 had ≡ true = sym (table.queued p.0 p.1) ∙ c.in-Some.ensures.member in
    record {
      in_force = λ q. ap (in_force now) (c.swap_remove.ensures.updates.0 q ∙ ap (λ x. cond (eq x q) None (get eq table.held q)) c.name.ensures)
          ∙ dropped (eq p.1 q) now (get eq table.held q) (λ same. ap (in_force now) (sym (lookup_alike eq same_names p.1 q same table.held.entries)) ∙ none_in_force had p.0 now ends c.in-Some.ensures.ended)
          ∙ c.loop-place.invariant.in_force q;
      moment = c.loop-place.invariant.moment;
    }

pub returns-clause-in_force : goal.returns-clause-in_force
returns-clause-in_force g c = λ q.
    let table = c.loop-place.self in
    sym (all_in_force (at table q) table.newest c.args.now.0 (omega (arith, c.loop-place.invariant.moment)) (table.taken q) (λ e ends. c.in_default.ensures.later e q (table.queued e q ∙ ends))) ∙ c.loop-place.invariant.in_force q

pub invariant_of-self-2-clause-taken : goal.invariant_of-self-2-clause-taken
invariant_of-self-2-clause-taken g c = λ k.
    let table = c.loop-place.self in
    taken_later table.newest c.args.now.0 (get name_eq table.held k) (omega (arith, c.loop-place.invariant.moment)) (table.taken k)
