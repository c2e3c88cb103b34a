-- What of a history tells the live alternatives of an origin at a later moment, and the failures of a route: no more than
-- two histories share that are alike.
use Rattle.std.proofs.Common.{◌≡◌, ◌⊎◌, inl, inr, ℕ, ◌+◌, ◌-◌, ◌≤◌, Bool, true, false, cond, not, nat_lt, [], ◌∷◌, Option, Some, None, filter, refl, ap, sym, ◌∙◌, subst, arith}
use Rattle.origin_values.specs.Equality.{origin_eq}
use Rattle.origin_values.specs.declared.origin.Origin.{Origin}
use Rattle.altsvc_grammar.specs.declared.alt.Alt.{Alt}
use Rattle.alias_chain.specs.declared.held.Held.{Held}
use Rattle.alias_chain.specs.Held.{is_in_force, in_force, body_at}
use Rattle.alias_chain.specs.Walk.{NameOf}
use Rattle.route_events.specs.declared.answer.AnswerBody.{AnswerBody}
use Rattle.route_events.specs.declared.fact.Fact.{Fact}
use Rattle.route_events.specs.declared.fact.Fact.TheVariants as fact
use Rattle.route_events.specs.declared.action.Action.TheVariants as action
use Rattle.route_events.specs.declared.route.Route.{Route}
use Rattle.route_events.specs.Journal.{Happened, Cut, Taken, Journal, newest_moment}
use Rattle.route_events.specs.Misdirection.{gives_up}
use Rattle.route_events.specs.Alternatives.{alternatives_of, newest_age, is_fresh, live, took, left_by}
use Rattle.route_events.specs.Answers.{newest_answer, answer_at}
use Rattle.route_events.specs.Backoff.{is_direct, Failures, no_failures, failed_at, opens_well, is_attempt_on, failures_after, failures}
use Rattle.route_events.specs.Alike.{Alike, brought}
use Rattle.alt_base.proofs.Lists.{filter_within}
use Rattle.route_events.proofs.Lists.{filter_swap}

-- by the moment and the age of the value that was taken last, an alternative is still fresh
abbrev pub fresh_by : Option (ℕ × ℕ) → ℕ → Alt → Bool
fresh_by None now a = true
fresh_by (Some value) now a = is_fresh value.0 value.1 now a

-- what is fresh was fresh before
fresh_before : (moment age s now : ℕ) (a : Alt) → s ≤ now → is_fresh moment age now a ≡ true → is_fresh moment age s a ≡ true
fresh_before moment age s now a earlier fresh = over_numbers age (now - moment) (s - moment) a.ma (omega (arith, earlier)) fresh
  where
    over_numbers : (age late early ma : ℕ) → early ≤ late → nat_lt (age + late) ma ≡ true → nat_lt (age + early) ma ≡ true
    over_numbers age late early ma less e = grind arith

-- the live alternatives at a later moment are those of an earlier one that are still fresh
pub live_later : (j : Journal) (o : Origin) (s now : ℕ) → s ≤ now → live j o now ≡ filter (fresh_by (brought (took j o)) now) (live j o s)
live_later [] o s now earlier = refl
live_later (Happened moment happened handed_in ∷ older) o s now earlier = by_fact happened (live_later older o s now earlier)
  where
    by_fact : (f : Fact) → live older o now ≡ filter (fresh_by (brought (took older o)) now) (live older o s) → left_by older o f (live older o now) ≡ filter (fresh_by (brought (took older o)) now) (left_by older o f (live older o s))
    by_fact fact.Network e = ap (filter (λ (a : Alt). a.persist)) e ∙ filter_swap (λ (a : Alt). a.persist) (fresh_by (brought (took older o)) now) (live older o s)
    by_fact (fact.Response q status age altsvc) e = ap (filter spared) e ∙ filter_swap spared (fresh_by (brought (took older o)) now) (live older o s)
      where
        spared : Alt → Bool
        spared a = not (gives_up older o (fact.Response q status age altsvc) a.key)
    by_fact _ e = e
live_later (Cut moment conn length ∷ older) o s now earlier = live_later older o s now earlier
live_later (Taken (action.Alternatives p value) ∷ older) o s now earlier = by_origin (origin_eq p o) (live_later older o s now earlier)
  where
    by_origin :
        (b : Bool) → live older o now ≡ filter (fresh_by (brought (took older o)) now) (live older o s) →
        cond b (filter (is_fresh (newest_moment older) (newest_age older) now) (alternatives_of value)) (live older o now)
        ≡ filter (fresh_by (brought (cond b (Some (record { value = value; moment = newest_moment older; age = newest_age older })) (took older o))) now) (cond b (filter (is_fresh (newest_moment older) (newest_age older) s) (alternatives_of value)) (live older o s))
    by_origin true e = sym (filter_within (is_fresh (newest_moment older) (newest_age older) now) (is_fresh (newest_moment older) (newest_age older) s) (alternatives_of value) (λ a h. fresh_before (newest_moment older) (newest_age older) s now a earlier h))
    by_origin false e = e
live_later (Taken _ ∷ older) o s now earlier = live_later older o s now earlier

-- two histories that are alike have the same live alternatives at each later moment
pub alike_live : (j k : Journal) (o : Origin) (now : ℕ) → Alike j k → newest_moment j ≤ now → live j o now ≡ live k o now
alike_live j k o now alike later =
    by_value (alike.brought o) (live_later j o (newest_moment j) now later) (live_later k o (newest_moment k) now (omega (arith, alike.moment, later))) (alike.alternatives o)
  where
    by_value :
        (live j o (newest_moment j) ≡ []) ⊎ (brought (took j o) ≡ brought (took k o)) →
        live j o now ≡ filter (fresh_by (brought (took j o)) now) (live j o (newest_moment j)) →
        live k o now ≡ filter (fresh_by (brought (took k o)) now) (live k o (newest_moment k)) →
        live j o (newest_moment j) ≡ live k o (newest_moment k) → live j o now ≡ live k o now
    by_value (inl none) ours theirs same =
        ours ∙ ap (filter (fresh_by (brought (took j o)) now)) none ∙ sym (theirs ∙ ap (filter (fresh_by (brought (took k o)) now)) (sym same ∙ none))
    by_value (inr one) ours theirs same =
        ours ∙ ap (λ b. filter (fresh_by b now) (live j o (newest_moment j))) one ∙ ap (filter (fresh_by (brought (took k o)) now)) same ∙ sym theirs

-- where a route didn't fail in a row, nothing of its failures is left
none_after : (older : Journal) (o : Origin) (r : Route) (moment : ℕ) (happened : Fact) (f : Failures) → (f.count ≡ 0 → f ≡ no_failures) → (failures_after older o r moment happened f).count ≡ 0 → failures_after older o r moment happened f ≡ no_failures
none_after older o r moment (fact.Opened attempt proto addr port names) f rest e = by_tests (is_attempt_on older o r attempt) (opens_well older (fact.Opened attempt proto addr port names)) e
  where
    by_tests : (b c : Bool) → (cond b (cond c no_failures (failed_at moment f)) f).count ≡ 0 → cond b (cond c no_failures (failed_at moment f)) f ≡ no_failures
    by_tests true true e = refl
    by_tests true false e = absurd (omega (arith, e))
    by_tests false c e = rest e
none_after older o r moment (fact.Failed attempt) f rest e = by_test (is_attempt_on older o r attempt) e
  where
    by_test : (b : Bool) → (cond b (failed_at moment f) f).count ≡ 0 → cond b (failed_at moment f) f ≡ no_failures
    by_test true e = absurd (omega (arith, e))
    by_test false e = rest e
none_after older o r moment fact.Network f rest e = refl
none_after older o r moment _ f rest e = rest e

pub none_failed : (j : Journal) (o : Origin) (r : Route) → (failures j o r).count ≡ 0 → failures j o r ≡ no_failures
none_failed [] o r e = refl
none_failed (Happened moment happened handed_in ∷ older) o r e = none_after older o r moment happened (failures older o r) (none_failed older o r) e
none_failed (Cut moment conn length ∷ older) o r e = none_failed older o r e
none_failed (Taken a ∷ older) o r e = none_failed older o r e

same_failures : (f g : Failures) → f.count ≡ g.count → f.last ≡ g.last → f ≡ g
same_failures f g counts lasts =
    let by_count : f ≡ record { count = g.count; last = f.last } = ap (λ (n : ℕ). record { count = n; last = f.last }) counts in
    let by_last : record { count = g.count; last = f.last } ≡ g = ap (λ (n : ℕ). record { count = g.count; last = n }) lasts in
    by_count ∙ by_last

-- two histories that are alike have the same failures of each route but the direct one
pub alike_failures : (j k : Journal) (o : Origin) (r : Route) → is_direct r ≡ false → Alike j k → failures j o r ≡ failures k o r
alike_failures j k o r other alike = by_count (alike.last o r other) (alike.failed o r other)
  where
    by_count : ((failures j o r).count ≡ 0) ⊎ ((failures j o r).last ≡ (failures k o r).last) → (failures j o r).count ≡ (failures k o r).count → failures j o r ≡ failures k o r
    by_count (inl none) same = none_failed j o r none ∙ sym (none_failed k o r (sym same ∙ none))
    by_count (inr last) same = same_failures (failures j o r) (failures k o r) same last

-- what is in force at a moment was so at each earlier one behind its own
pub later_body : {B : Type 0} (s now : ℕ) (w : Option (Held B)) → s ≤ now → body_at now w ≡ body_at now (in_force s w)
later_body s now None h = refl
later_body {B} s now (Some held) h = by_test (is_in_force s held) refl
  where
    ended : (moment ttl : ℕ) → nat_lt (s - moment) ttl ≡ false → nat_lt (now - moment) ttl ≡ false
    ended moment ttl e = grind arith

    by_test : (b : Bool) → is_in_force s held ≡ b → body_at now (Some held) ≡ body_at now (cond b (Some held) None)
    by_test true e = refl
    by_test false e = ap (λ (b : Bool). cond b (Some held.body) None) (ended held.moment held.ttl e)

-- two histories that are alike have the same answers at each later moment
pub alike_answers : {B : Type 0} (j k : Journal) (brings : AnswerBody → Option B) (name : NameOf) (now : ℕ) → newest_moment j ≡ newest_moment k →
    in_force (newest_moment j) (newest_answer brings j name) ≡ in_force (newest_moment k) (newest_answer brings k name) → newest_moment j ≤ now →
    answer_at brings j now name ≡ answer_at brings k now name
alike_answers j k brings name now at same later =
    later_body (newest_moment j) now (newest_answer brings j name) later
    ∙ ap (body_at now) same
    ∙ sym (later_body (newest_moment k) now (newest_answer brings k name) (subst (λ s. s ≤ now) at later))
