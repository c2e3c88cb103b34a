-- No two of the routes that failed are one.
use Rattle.std.proofs.Common.{◌≡◌, ℕ, ◌+◌, Bool, true, false, cond, ◌||◌, ◌&&◌, not, List, [], ◌∷◌, ◌++◌, map, refl, ap, sym, ◌∙◌}
use Rattle.std.specs.Prelude.{min}
use Rattle.std.specs.List.{list_any}
use Rattle.origin_values.specs.declared.origin.Origin.{Origin}
use Rattle.origin_values.specs.Equality.{origin_eq}
use Rattle.route_events.specs.declared.route.Route.{Route}
use Rattle.route_events.specs.Authority.{route_eq}
use Rattle.route_choice.specs.declared.failed_route.FailedRoute.{FailedRoute}
use Rattle.route_choice.specs.Pairs.{is_pair, is_among, are_distinct}
use Rattle.route_choice.specs.FailedRoutes.{is_of, pairs_of, once_more, first_failure, after_failure, after_success}
use Rattle.route_choice.proofs.Same.{turned_not}
use Rattle.route_choice.proofs.PairLists.{without, distinct_without}
use Rattle.alt_base.proofs.Booleans.{first_of_neither, second_of_neither, first_of_both, second_of_both}
use Rattle.std.proofs.lemmas.Bool.{or_from, and_from, not-true, not_from_false}
use Rattle.std.proofs.lemmas.List.{map-append}

pub among_pairs : (o : Origin) (r : Route) (fs : List FailedRoute) → list_any (is_of o r) fs ≡ is_among o r (pairs_of fs)
among_pairs o r [] = refl
among_pairs o r (f ∷ fs) = ap (λ b. is_of o r f || b) (among_pairs o r fs)

same_pairs : (now : ℕ) (o : Origin) (r : Route) (fs : List FailedRoute) → pairs_of (map (once_more now o r) fs) ≡ pairs_of fs
same_pairs now o r [] = refl
same_pairs now o r (f ∷ fs) = rw (same_pairs now o r fs) (by_test (is_of o r f))
  where
    by_test : (b : Bool)
        → (let g : FailedRoute = cond b (record { origin = f.origin; route = f.route; count = min 11 (f.count + 1); last = now }) f in
        let p : Origin × Route = (g.origin, g.route) in
        p ∷ pairs_of fs ≡ pairs_of (f ∷ fs))
    by_test true = refl
    by_test false = refl

among_pushed : (a o : Origin) (b r : Route) (ps : List (Origin × Route)) → is_among a b ps ≡ false → (origin_eq o a && route_eq r b) ≡ false → is_among a b (ps ++ (o, r) ∷ []) ≡ false
among_pushed a o b r [] h k = or_from (origin_eq o a && route_eq r b) false k refl
among_pushed a o b r (p ∷ ps) h k =
    or_from (is_pair a b p) (is_among a b (ps ++ (o, r) ∷ [])) (first_of_neither (is_pair a b p) (is_among a b ps) h) (among_pushed a o b r ps (second_of_neither (is_pair a b p) (is_among a b ps) h) k)

distinct_pushed : (o : Origin) (r : Route) (ps : List (Origin × Route)) → is_among o r ps ≡ false → are_distinct ps ≡ true → are_distinct (ps ++ (o, r) ∷ []) ≡ true
distinct_pushed o r [] h k = refl
distinct_pushed o r (p ∷ ps) h k =
    let alone = not-true (is_among p.0 p.1 ps) (first_of_both (not (is_among p.0 p.1 ps)) (are_distinct ps) k) in
    let other = turned_not p.0 o p.1 r (first_of_neither (is_pair o r p) (is_among o r ps) h) in
    and_from (not (is_among p.0 p.1 (ps ++ (o, r) ∷ []))) (are_distinct (ps ++ (o, r) ∷ [])) (not_from_false (is_among p.0 p.1 (ps ++ (o, r) ∷ [])) (among_pushed p.0 o p.1 r ps alone other))
    (distinct_pushed o r ps (second_of_neither (is_pair o r p) (is_among o r ps) h) (second_of_both (not (is_among p.0 p.1 ps)) (are_distinct ps) k))

pub distinct_after_failure : (now : ℕ) (o : Origin) (r : Route) (fs : List FailedRoute) → are_distinct (pairs_of fs) ≡ true → are_distinct (pairs_of (after_failure now o r fs)) ≡ true
distinct_after_failure now o r fs h = by_test (list_any (is_of o r) fs) refl
  where
    by_test : (b : Bool) → list_any (is_of o r) fs ≡ b → are_distinct (pairs_of (cond b (map (once_more now o r) fs) (fs ++ first_failure now o r ∷ []))) ≡ true
    by_test true e = ap are_distinct (same_pairs now o r fs) ∙ h
    by_test false e =
        ap are_distinct (map-append (λ (f : FailedRoute). (f.origin, f.route)) fs (first_failure now o r ∷ [])) ∙ distinct_pushed o r (pairs_of fs) (sym (among_pairs o r fs) ∙ e) h

-- a success takes its route's pair away
without_pair : (o : Origin) (r : Route) (fs : List FailedRoute) → pairs_of (after_success o r fs) ≡ without o r (pairs_of fs)
without_pair o r [] = refl
without_pair o r (f ∷ fs) = by_test (is_of o r f) (without_pair o r fs)
  where
    by_test : (b : Bool) → pairs_of (after_success o r fs) ≡ without o r (pairs_of fs) → pairs_of (cond (not b) (f ∷ after_success o r fs) (after_success o r fs)) ≡ cond (not b) ((f.origin, f.route) ∷ without o r (pairs_of fs)) (without o r (pairs_of fs))
    by_test true rest = rest
    by_test false rest = rw rest refl

pub distinct_after_success : (o : Origin) (r : Route) (fs : List FailedRoute) → are_distinct (pairs_of fs) ≡ true → are_distinct (pairs_of (after_success o r fs)) ≡ true
distinct_after_success o r fs h = ap are_distinct (without_pair o r fs) ∙ distinct_without (o, r) (pairs_of fs) h
