-- Nothing is live for an origin for which no value was taken, and nothing failed on a route by which no attempt started.
use Rattle.std.proofs.Common.{◌≡◌, inl, inr, ℕ, Bool, true, false, cond, not, ◌&&◌, ◌||◌, nat_eq, List, [], ◌∷◌, Option, Some, None, map, filter, refl, ap, sym, ◌∙◌, subst, true≢false}
use Rattle.std.specs.Option.{option_map_or}
use Rattle.std.specs.List.{list_any}
use Rattle.std.proofs.lemmas.List.Folds.{list_any-append}
use Rattle.alt_base.proofs.Conjunctions.{both}
use Rattle.altsvc_grammar.specs.declared.alt.Alt.{Alt}
use Rattle.origin_values.specs.Equality.{origin_eq}
use Rattle.origin_values.proofs.Equal.{one_origin}
use Rattle.origin_values.specs.declared.origin.Origin.{Origin}
use Rattle.route_events.specs.declared.fact.Fact.{Fact}
use Rattle.route_events.specs.declared.fact.Fact.TheVariants as fact
use Rattle.route_events.specs.declared.action.Action.TheVariants as action
use Rattle.route_events.specs.declared.attempt.Attempt.{Attempt}
use Rattle.route_events.specs.declared.route.Route.{Route}
use Rattle.route_events.specs.Journal.{Happened, Cut, Taken, Journal, newest_moment, of_action, readings}
use Rattle.route_events.specs.Attempts.{attempts, has_ended, pending, pending_attempt}
use Rattle.route_events.specs.Misdirection.{gives_up}
use Rattle.route_events.specs.Alternatives.{alternatives_of, newest_age, is_fresh, left_by, live}
use Rattle.route_events.specs.Authority.{route_eq}
use Rattle.route_events.specs.Backoff.{Failures, no_failures, failed_at, is_on, is_attempt_on, opens_well, failures_after, failures}
use Rattle.route_events.specs.Distinct.{are_apart, advertised_in, advertised_origins, pair_eq, attempted_routes}
use Rattle.route_events.proofs.Lists.{IsIn, in_filter, find_in}
use Rattle.route_events.proofs.RouteTests.{one_route}
use Rattle.route_events.proofs.Apart.{distinct_apart, none_distinct}
use Rattle.alt_base.proofs.Booleans.{first_of_neither, second_of_neither}

-- no value was taken for the origin
none_taken : (j : Journal) (o : Origin) (now : ℕ) → list_any (λ p. origin_eq p o) (readings (λ older. of_action advertised_in) j) ≡ false → live j o now ≡ []
none_taken [] o now none = refl
none_taken (Happened moment happened handed_in ∷ older) o now none = by_fact happened (none_taken older o now none)
  where
    by_fact : (f : Fact) → live older o now ≡ [] → left_by older o f (live older o now) ≡ []
    by_fact fact.Network rest = ap (filter (λ (a : Alt). a.persist)) rest
    by_fact (fact.Response q status age altsvc) rest = ap (filter (λ (a : Alt). not (gives_up older o (fact.Response q status age altsvc) a.key))) rest
    by_fact f rest = rest
none_taken (Cut moment conn length ∷ older) o now none = none_taken older o now none
none_taken (Taken (action.Alternatives p value) ∷ older) o now none =
    by_origin (origin_eq p o) (first_of_neither (origin_eq p o) false (second_of_neither (list_any (λ p. origin_eq p o) taken) (list_any (λ p. origin_eq p o) (p ∷ [])) parts))
    (none_taken older o now (first_of_neither (list_any (λ p. origin_eq p o) taken) (list_any (λ p. origin_eq p o) (p ∷ [])) parts))
  where
    taken : List Origin
    taken = readings (λ older. of_action advertised_in) older

    parts : (list_any (λ p. origin_eq p o) (readings (λ older. of_action advertised_in) older) || list_any (λ p. origin_eq p o) (p ∷ [])) ≡ false
    parts = sym (list_any-append (λ p. origin_eq p o) (readings (λ older. of_action advertised_in) older) (p ∷ [])) ∙ none

    by_origin : (b : Bool) → b ≡ false → live older o now ≡ [] → cond b (filter (is_fresh (newest_moment older) (newest_age older) now) (alternatives_of value)) (live older o now) ≡ []
    by_origin true e rest = absurd (true≢false e)
    by_origin false e rest = rest
none_taken (Taken _ ∷ older) o now none = none_taken older o now none

pub not_advertised : (j : Journal) (o : Origin) (now : ℕ) → list_any (λ p. origin_eq p o) (advertised_origins j) ≡ false → live j o now ≡ []
not_advertised j o now none = none_taken j o now (none_distinct origin_eq (λ p. origin_eq p o) one (readings (λ older. of_action advertised_in) j) none)
  where
    one : (p q : Origin) → origin_eq p q ≡ true → origin_eq q o ≡ true → origin_eq p o ≡ true
    one p q same e = subst (λ (x : Origin). origin_eq x o ≡ true) (sym ((one_origin p q).0 same)) e

-- where no attempt for the origin by the route started, none is pending
none_passes : {X : Type 0} (p : X → Bool) (x : X) (xs : List X) → list_any p xs ≡ false → IsIn x xs → p x ≡ false
none_passes p x [] none found = absurd found
none_passes p x (y ∷ ys) none (inl same) = subst (λ z. p z ≡ false) (sym same) (first_of_neither (p y) (list_any p ys) none)
none_passes p x (y ∷ ys) none (inr later) = none_passes p x ys (second_of_neither (p y) (list_any p ys) none) later

not_pending : (j : Journal) (o : Origin) (r : Route) (number : ℕ) → list_any (is_on o r) (attempts j) ≡ false → is_attempt_on j o r number ≡ false
not_pending j o r number none = by_found (pending_attempt j number) refl
  where
    by_found : (w : Option Attempt) → pending_attempt j number ≡ w → option_map_or (is_on o r) w false ≡ false
    by_found None e = refl
    by_found (Some a) e =
        let there = find_in (λ (a : Attempt). nat_eq a.number number) (pending j) a e in
        let started = in_filter (λ (a : Attempt). not (has_ended j a.number)) a (attempts j) there.0 in
        none_passes (is_on o r) a (attempts j) none started.0

nothing_after : (older : Journal) (o : Origin) (r : Route) (moment : ℕ) (happened : Fact) (f : Failures) → ((number : ℕ) → is_attempt_on older o r number ≡ false) → f ≡ no_failures → failures_after older o r moment happened f ≡ no_failures
nothing_after older o r moment (fact.Opened attempt proto addr port names) f none were = by_test (is_attempt_on older o r attempt) (none attempt)
  where
    by_test : (b : Bool) → b ≡ false → cond b (cond (opens_well older (fact.Opened attempt proto addr port names)) no_failures (failed_at moment f)) f ≡ no_failures
    by_test true e = absurd (true≢false e)
    by_test false e = were
nothing_after older o r moment (fact.Failed attempt) f none were = by_test (is_attempt_on older o r attempt) (none attempt)
  where
    by_test : (b : Bool) → b ≡ false → cond b (failed_at moment f) f ≡ no_failures
    by_test true e = absurd (true≢false e)
    by_test false e = were
nothing_after older o r moment fact.Network f none were = refl
nothing_after older o r moment _ f none were = were

none_failed : (j : Journal) (o : Origin) (r : Route) → list_any (is_on o r) (attempts j) ≡ false → failures j o r ≡ no_failures
none_failed [] o r none = refl
none_failed (Happened moment happened handed_in ∷ older) o r none = nothing_after older o r moment happened (failures older o r) (λ number. not_pending older o r number none) (none_failed older o r none)
none_failed (Cut moment conn length ∷ older) o r none = none_failed older o r none
none_failed (Taken (action.OpenTo number p s) ∷ older) o r none = none_failed older o r (first_of_neither (list_any (is_on o r) (attempts older)) (list_any (is_on o r) (attempt ∷ [])) (sym (list_any-append (is_on o r) (attempts older) (attempt ∷ [])) ∙ none))
  where
    attempt : Attempt
    attempt = record { number = number; origin = p; route = s }
none_failed (Taken _ ∷ older) o r none = none_failed older o r none

any_pair : (o : Origin) (r : Route) (as' : List Attempt) → list_any (λ p. pair_eq p (o, r)) (map (λ (a : Attempt). (a.origin, a.route)) as') ≡ list_any (is_on o r) as'
any_pair o r [] = refl
any_pair o r (a ∷ as') = ap (λ b. is_on o r a || b) (any_pair o r as')

pub not_attempted : (j : Journal) (o : Origin) (r : Route) → list_any (λ p. pair_eq p (o, r)) (attempted_routes j) ≡ false → failures j o r ≡ no_failures
not_attempted j o r none = none_failed j o r (sym (any_pair o r (attempts j)) ∙ none_distinct pair_eq (λ p. pair_eq p (o, r)) one (map (λ (a : Attempt). (a.origin, a.route)) (attempts j)) none)
  where
    one : (p q : Origin × Route) → pair_eq p q ≡ true → pair_eq q (o, r) ≡ true → pair_eq p (o, r) ≡ true
    one p q same e =
        let parts = both (origin_eq p.0 q.0) (route_eq p.1 q.1) same in
        subst (λ (x : Origin). (origin_eq x o && route_eq p.1 r) ≡ true) (sym ((one_origin p.0 q.0).0 parts.0))
        (subst (λ (x : Route). (origin_eq q.0 o && route_eq x r) ≡ true) (sym (one_route p.1 q.1 parts.1)) e)

pub origins_apart : (j : Journal) → are_apart origin_eq (advertised_origins j) ≡ true
origins_apart j = distinct_apart origin_eq (readings (λ older. of_action advertised_in) j)

pub routes_apart : (j : Journal) → are_apart pair_eq (attempted_routes j) ≡ true
routes_apart j = distinct_apart pair_eq (map (λ (a : Attempt). (a.origin, a.route)) (attempts j))
