-- The failures of each origin's route after a failure, and after a success.
use Rattle.std.proofs.Common.{◌≡◌, ℕ, ◌+◌, Bool, true, false, cond, ◌||◌, ◌&&◌, not, List, [], ◌∷◌, ◌++◌, map, Some, refl, ap, sym, ◌∙◌, true≢false}
use Rattle.std.specs.Prelude.{find, min}
use Rattle.std.specs.List.{list_any}
use Rattle.std.specs.Option.{option_map_or}
use Rattle.origin_values.specs.declared.origin.Origin.{Origin}
use Rattle.origin_values.specs.Equality.{origin_eq}
use Rattle.route_events.specs.declared.route.Route.{Route}
use Rattle.route_events.specs.declared.route.Route.TheVariants.{Direct, Alt, Rec}
use Rattle.route_events.specs.Authority.{route_eq}
use Rattle.route_events.specs.Backoff.{Failures, no_failures, failed_at, is_barred_by}
use Rattle.route_choice.specs.declared.failed_route.FailedRoute.{FailedRoute}
use Rattle.route_choice.specs.Capped.{capped}
use Rattle.route_choice.specs.FailedRoutes.{failures_of, is_of, failures_in, once_more, first_failure, after_failure, after_success}
use Rattle.route_choice.proofs.Same.{own, along, joined}
use Rattle.alt_base.proofs.Booleans.{contradicts}

abbrev pub chosen : FailedRoute → Failures → Bool → Failures
chosen f rest b = cond b (failures_of f) rest

-- the first route is looked up, or one of the others
pub looked_up : (o : Origin) (r : Route) (f : FailedRoute) (fs : List FailedRoute) → failures_in (f ∷ fs) o r ≡ chosen f (failures_in fs o r) (is_of o r f)
looked_up o r f fs = by_test (is_of o r f)
  where
    by_test : (b : Bool) → option_map_or failures_of (cond b (Some f) (find (is_of o r) fs)) no_failures ≡ chosen f (failures_in fs o r) b
    by_test true = refl
    by_test false = refl

pub nothing_in : (o : Origin) (r : Route) (fs : List FailedRoute) → list_any (is_of o r) fs ≡ false → failures_in fs o r ≡ no_failures
nothing_in o r [] h = refl
nothing_in o r (f ∷ fs) h = looked_up o r f fs ∙ by_test (is_of o r f) h (nothing_in o r fs)
  where
    by_test : (b : Bool) → (b || list_any (is_of o r) fs) ≡ false → (list_any (is_of o r) fs ≡ false → failures_in fs o r ≡ no_failures) → chosen f (failures_in fs o r) b ≡ no_failures
    by_test true h rest = absurd (true≢false h)
    by_test false h rest = rest h

pub not_barred : (r : Route) (now : ℕ) → is_barred_by no_failures r now ≡ false
not_barred Direct now = refl
not_barred (Alt key) now = refl
not_barred (Rec endpoint) now = refl

-- a failure of a route that has failed

more_here : (now : ℕ) (o : Origin) (r : Route) (fs : List FailedRoute) → list_any (is_of o r) fs ≡ true → failures_in (map (once_more now o r) fs) o r ≡ capped (failed_at now (failures_in fs o r))
more_here now o r [] h = absurd (true≢false (sym h))
more_here now o r (f ∷ fs) h =
    looked_up o r (once_more now o r f) (map (once_more now o r) fs) ∙ by_test (is_of o r f) refl h (more_here now o r fs) ∙ sym (ap (λ x. capped (failed_at now x)) (looked_up o r f fs))
  where
    by_test : (b : Bool) → is_of o r f ≡ b → (b || list_any (is_of o r) fs) ≡ true
        → (list_any (is_of o r) fs ≡ true → failures_in (map (once_more now o r) fs) o r ≡ capped (failed_at now (failures_in fs o r)))
        → (let g : FailedRoute = cond b (record { origin = f.origin; route = f.route; count = min 11 (f.count + 1); last = now }) f in
        chosen g (failures_in (map (once_more now o r) fs) o r) (is_of o r g) ≡ capped (failed_at now (chosen f (failures_in fs o r) b)))
    by_test true e h rest = rw e refl
    by_test false e h rest = rw e (rest h)

more_elsewhere : (now : ℕ) (o p : Origin) (r s : Route) (fs : List FailedRoute) → (origin_eq o p && route_eq r s) ≡ false → failures_in (map (once_more now o r) fs) p s ≡ failures_in fs p s
more_elsewhere now o p r s [] h = refl
more_elsewhere now o p r s (f ∷ fs) h =
    looked_up p s (once_more now o r f) (map (once_more now o r) fs) ∙ by_tests (is_of o r f) (is_of p s f) refl refl (more_elsewhere now o p r s fs h) ∙ sym (looked_up p s f fs)
  where
    by_tests : (a b : Bool) → is_of o r f ≡ a → is_of p s f ≡ b → failures_in (map (once_more now o r) fs) p s ≡ failures_in fs p s
        → (let g : FailedRoute = cond a (record { origin = f.origin; route = f.route; count = min 11 (f.count + 1); last = now }) f in
        chosen g (failures_in (map (once_more now o r) fs) p s) (is_of p s g) ≡ chosen f (failures_in fs p s) b)
    by_tests true true d e rest = contradicts (origin_eq o p && route_eq r s) (joined f.origin o p f.route r s d e) h
    by_tests true false d e rest = rw e rest
    by_tests false true d e rest = rw e refl
    by_tests false false d e rest = rw e rest

-- a failure of one that hasn't

first_here : (now : ℕ) (o : Origin) (r : Route) (fs : List FailedRoute) → list_any (is_of o r) fs ≡ false → failures_in (fs ++ first_failure now o r ∷ []) o r ≡ capped (failed_at now (failures_in fs o r))
first_here now o r [] h = rw (own o r) refl
first_here now o r (f ∷ fs) h =
    looked_up o r f (fs ++ first_failure now o r ∷ []) ∙ by_test (is_of o r f) h (first_here now o r fs) ∙ sym (ap (λ x. capped (failed_at now x)) (looked_up o r f fs))
  where
    by_test : (b : Bool) → (b || list_any (is_of o r) fs) ≡ false
        → (list_any (is_of o r) fs ≡ false → failures_in (fs ++ first_failure now o r ∷ []) o r ≡ capped (failed_at now (failures_in fs o r)))
        → chosen f (failures_in (fs ++ first_failure now o r ∷ []) o r) b ≡ capped (failed_at now (chosen f (failures_in fs o r) b))
    by_test true h rest = absurd (true≢false h)
    by_test false h rest = rest h

first_elsewhere : (now : ℕ) (o p : Origin) (r s : Route) (fs : List FailedRoute) → (origin_eq o p && route_eq r s) ≡ false → failures_in (fs ++ first_failure now o r ∷ []) p s ≡ failures_in fs p s
first_elsewhere now o p r s [] h = rw h refl
first_elsewhere now o p r s (f ∷ fs) h =
    looked_up p s f (fs ++ first_failure now o r ∷ []) ∙ ap (λ x. chosen f x (is_of p s f)) (first_elsewhere now o p r s fs h) ∙ sym (looked_up p s f fs)

failure_here : (now : ℕ) (o : Origin) (r : Route) (fs : List FailedRoute) → failures_in (after_failure now o r fs) o r ≡ capped (failed_at now (failures_in fs o r))
failure_here now o r fs = by_test (list_any (is_of o r) fs) refl
  where
    by_test : (b : Bool) → list_any (is_of o r) fs ≡ b → failures_in (cond b (map (once_more now o r) fs) (fs ++ first_failure now o r ∷ [])) o r ≡ capped (failed_at now (failures_in fs o r))
    by_test true e = more_here now o r fs e
    by_test false e = first_here now o r fs e

failure_elsewhere : (now : ℕ) (o p : Origin) (r s : Route) (fs : List FailedRoute) → (origin_eq o p && route_eq r s) ≡ false → failures_in (after_failure now o r fs) p s ≡ failures_in fs p s
failure_elsewhere now o p r s fs h = by_test (list_any (is_of o r) fs)
  where
    by_test : (b : Bool) → failures_in (cond b (map (once_more now o r) fs) (fs ++ first_failure now o r ∷ [])) p s ≡ failures_in fs p s
    by_test true = more_elsewhere now o p r s fs h
    by_test false = first_elsewhere now o p r s fs h

pub after_failure_in : (now : ℕ) (o p : Origin) (r s : Route) (fs : List FailedRoute) → failures_in (after_failure now o r fs) p s ≡ cond (origin_eq o p && route_eq r s) (capped (failed_at now (failures_in fs p s))) (failures_in fs p s)
after_failure_in now o p r s fs = by_test (origin_eq o p && route_eq r s) refl
  where
    by_test : (b : Bool) → (origin_eq o p && route_eq r s) ≡ b → failures_in (after_failure now o r fs) p s ≡ cond b (capped (failed_at now (failures_in fs p s))) (failures_in fs p s)
    by_test true e = along (λ x y. failures_in (after_failure now o r fs) x y ≡ capped (failed_at now (failures_in fs x y))) o p r s e (failure_here now o r fs)
    by_test false e = failure_elsewhere now o p r s fs e

-- a success

success_here : (o : Origin) (r : Route) (fs : List FailedRoute) → failures_in (after_success o r fs) o r ≡ no_failures
success_here o r [] = refl
success_here o r (f ∷ fs) = by_test (is_of o r f) refl (success_here o r fs)
  where
    by_test : (b : Bool) → is_of o r f ≡ b → failures_in (after_success o r fs) o r ≡ no_failures → failures_in (cond (not b) (f ∷ after_success o r fs) (after_success o r fs)) o r ≡ no_failures
    by_test true e rest = rest
    by_test false e rest = looked_up o r f (after_success o r fs) ∙ rw e rest

success_elsewhere : (o p : Origin) (r s : Route) (fs : List FailedRoute) → (origin_eq o p && route_eq r s) ≡ false → failures_in (after_success o r fs) p s ≡ failures_in fs p s
success_elsewhere o p r s [] h = refl
success_elsewhere o p r s (f ∷ fs) h = by_tests (is_of o r f) (is_of p s f) refl refl (success_elsewhere o p r s fs h) ∙ sym (looked_up p s f fs)
  where
    by_tests : (a b : Bool) → is_of o r f ≡ a → is_of p s f ≡ b → failures_in (after_success o r fs) p s ≡ failures_in fs p s → failures_in (cond (not a) (f ∷ after_success o r fs) (after_success o r fs)) p s ≡ chosen f (failures_in fs p s) b
    by_tests true true d e rest = contradicts (origin_eq o p && route_eq r s) (joined f.origin o p f.route r s d e) h
    by_tests true false d e rest = rest
    by_tests false true d e rest = looked_up p s f (after_success o r fs) ∙ rw e refl
    by_tests false false d e rest = looked_up p s f (after_success o r fs) ∙ rw e rest

pub after_success_in : (o p : Origin) (r s : Route) (fs : List FailedRoute) → failures_in (after_success o r fs) p s ≡ cond (origin_eq o p && route_eq r s) no_failures (failures_in fs p s)
after_success_in o p r s fs = by_test (origin_eq o p && route_eq r s) refl
  where
    by_test : (b : Bool) → (origin_eq o p && route_eq r s) ≡ b → failures_in (after_success o r fs) p s ≡ cond b no_failures (failures_in fs p s)
    by_test true e = along (λ x y. failures_in (after_success o r fs) x y ≡ no_failures) o p r s e (success_here o r fs)
    by_test false e = success_elsewhere o p r s fs e
