-- Counting the routes that failed and are broken counts all that are.
use Rattle.std.proofs.Common.{◌≡◌, ℕ, Bool, true, false, cond, not, List, [], ◌∷◌, refl, ap, sym, ◌∙◌, arith}
use Rattle.std.specs.Prelude.{count_by}
use Rattle.std.proofs.lemmas.List.Sums.{sum_by-cons}
use Rattle.origin_values.specs.declared.origin.Origin.{Origin}
use Rattle.route_events.specs.declared.route.Route.{Route}
use Rattle.route_events.specs.Backoff.{is_barred_by}
use Rattle.route_choice.specs.declared.failed_route.FailedRoute.{FailedRoute}
use Rattle.route_choice.specs.Pairs.{is_among, are_distinct}
use Rattle.route_choice.specs.FailedRoutes.{failures_of, is_of, failures_in, pairs_of, is_barred}
use Rattle.route_choice.proofs.Same.{own, along, turned}
use Rattle.route_choice.proofs.Lookups.{nothing_in, not_barred, looked_up}
use Rattle.route_choice.proofs.Distinct.{among_pairs}
use Rattle.route_choice.proofs.PairLists.{same_count}
use Rattle.alt_base.proofs.Booleans.{contradicts, first_of_both, second_of_both}
use Rattle.std.proofs.lemmas.Bool.{not-true}

abbrev one_if : Bool → ℕ
one_if b = cond b 1 0

pub none_elsewhere : (now : ℕ) (fs : List FailedRoute) (o : Origin) (r : Route) → is_among o r (pairs_of fs) ≡ false → is_barred_by (failures_in fs o r) r now ≡ false
none_elsewhere now fs o r h = ap (λ x. is_barred_by x r now) (nothing_in o r fs (among_pairs o r fs ∙ h)) ∙ not_barred r now

abbrev is_broken_in : ℕ → List FailedRoute → Origin × Route → Bool
is_broken_in now fs p = is_barred_by (failures_in fs p.0 p.1) p.1 now

pub count_of_pairs : (now : ℕ) (fs : List FailedRoute) → are_distinct (pairs_of fs) ≡ true → count_by (is_barred now) fs ≡ count_by (λ (p : Origin × Route). is_barred_by (failures_in fs p.0 p.1) p.1 now) (pairs_of fs)
count_of_pairs now [] h = refl
count_of_pairs now (f ∷ fs) h =
    let rest = count_of_pairs now fs (second_of_both (not (is_among f.origin f.route (pairs_of fs))) (are_distinct (pairs_of fs)) h) in
    let same = same_count (is_broken_in now fs) (is_broken_in now (f ∷ fs)) (pairs_of fs) elsewhere in
    omega (arith, sum_by-cons (λ g. one_if (is_barred now g)) f fs, sum_by-cons (λ q. one_if (is_broken_in now (f ∷ fs) q)) (f.origin, f.route) (pairs_of fs), rest, same, here)
  where
    here : one_if (is_broken_in now (f ∷ fs) (f.origin, f.route)) ≡ one_if (is_barred now f)
    here = ap (λ x. one_if (is_barred_by x f.route now)) (looked_up f.origin f.route f fs ∙ rw (own f.origin f.route) refl)

    alone : is_among f.origin f.route (pairs_of fs) ≡ false
    alone = not-true (is_among f.origin f.route (pairs_of fs)) (first_of_both (not (is_among f.origin f.route (pairs_of fs))) (are_distinct (pairs_of fs)) h)

    other : (p : Origin × Route) → is_among p.0 p.1 (pairs_of fs) ≡ true → (w : Bool) → is_of p.0 p.1 f ≡ w → w ≡ false
    other p found true e = contradicts (is_among f.origin f.route (pairs_of fs)) (along (λ o r. is_among o r (pairs_of fs) ≡ true) p.0 f.origin p.1 f.route (turned f.origin p.0 f.route p.1 e) found) alone
    other p found false e = refl

    elsewhere : (p : Origin × Route) → is_among p.0 p.1 (pairs_of fs) ≡ true → is_broken_in now fs p ≡ is_broken_in now (f ∷ fs) p
    elsewhere p found = ap (λ x. is_barred_by x p.1 now) (sym (looked_up p.0 p.1 f fs ∙ ap (λ w. cond w (failures_of f) (failures_in fs p.0 p.1)) (other p found (is_of p.0 p.1 f) refl)))
