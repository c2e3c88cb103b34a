-- The routes that failed, as a table lists them.
use Rattle.std.specs.Prelude.{ℕ, ◌+◌, Bool, not, ◌&&◌, List, [], ◌∷◌, ◌++◌, if◌then◌else◌, find, map, filter, min}
use Rattle.std.specs.List.{list_any}
use Rattle.std.specs.Option.{option_map_or}
use Rattle.origin_values.specs.Equality.{origin_eq}
use Rattle.origin_values.specs.declared.origin.Origin.{Origin}
use Rattle.route_events.specs.declared.route.Route.{Route}
use Rattle.route_events.specs.Authority.{route_eq}
use Rattle.route_events.specs.Backoff.{Failures, no_failures, is_barred_by}
use Rattle.route_choice.specs.declared.failed_route.FailedRoute.{FailedRoute}

abbrev pub failures_of : FailedRoute → Failures
failures_of f = record { count = f.count; last = f.last }

-- it is this origin's route
abbrev pub is_of : Origin → Route → FailedRoute → Bool
is_of o r f = origin_eq f.origin o && route_eq f.route r

-- the failures of an origin's route, none where it isn't listed
abbrev pub failures_in : List FailedRoute → Origin → Route → Failures
failures_in fs o r = option_map_or failures_of (find (is_of o r) fs) no_failures

abbrev pub pairs_of : List FailedRoute → List (Origin × Route)
pairs_of fs = map (λ (f : FailedRoute). (f.origin, f.route)) fs

-- one more failure at a moment, where it is this origin's route
abbrev pub once_more : ℕ → Origin → Route → FailedRoute → FailedRoute
once_more now o r f = if is_of o r f then record { origin = f.origin; route = f.route; count = min 11 (f.count + 1); last = now } else f

abbrev pub first_failure : ℕ → Origin → Route → FailedRoute
first_failure now o r = record { origin = o; route = r; count = 1; last = now }

-- the list after a failure of an origin's route
abbrev pub after_failure : ℕ → Origin → Route → List FailedRoute → List FailedRoute
after_failure now o r fs = if list_any (is_of o r) fs then map (once_more now o r) fs else fs ++ first_failure now o r ∷ []

-- the list after a success of it
abbrev pub after_success : Origin → Route → List FailedRoute → List FailedRoute
after_success o r fs = filter (λ (f : FailedRoute). not (is_of o r f)) fs

-- its failures bar it
abbrev pub is_barred : ℕ → FailedRoute → Bool
is_barred now f = is_barred_by (failures_of f) f.route now
