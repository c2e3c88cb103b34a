-- The different origins and routes of a journal, over which is counted.
use Rattle.std.specs.Prelude.{Bool, true, not, ◌&&◌, List, [], ◌∷◌, Option, Some, None, map, filter}
use Rattle.std.specs.List.{list_any}
use Rattle.origin_values.specs.Equality.{origin_eq}
use Rattle.origin_values.specs.declared.origin.Origin.{Origin}
use Rattle.route_events.specs.declared.action.Action.{Action}
use Rattle.route_events.specs.declared.action.Action.TheVariants as action
use Rattle.route_events.specs.declared.attempt.Attempt.{Attempt}
use Rattle.route_events.specs.declared.route.Route.{Route}
use Rattle.route_events.specs.Journal.{Journal, of_action, readings}
use Rattle.route_events.specs.Attempts.{attempts}
use Rattle.route_events.specs.Authority.{route_eq}

-- each item at its first place, where a test says which two are one
abbrev pub distinct : {X : Type 0} → (X → X → Bool) → List X → List X
distinct same [] = []
distinct same (x ∷ xs) = x ∷ filter (λ y. not (same x y)) (distinct same xs)

-- no two items of a list are one
abbrev pub are_apart : {X : Type 0} → (X → X → Bool) → List X → Bool
are_apart same [] = true
are_apart same (x ∷ xs) = not (list_any (same x) xs) && are_apart same xs

-- the origin that a value is taken for
abbrev pub advertised_in : Action → Option Origin
advertised_in (action.Alternatives origin value) = Some origin
advertised_in _ = None

-- the different origins for which a value was ever taken, the oldest first
abbrev pub advertised_origins : Journal → List Origin
advertised_origins journal = distinct origin_eq (readings (λ older. of_action advertised_in) journal)

abbrev pub pair_eq : Origin × Route → Origin × Route → Bool
pair_eq a b = origin_eq a.0 b.0 && route_eq a.1 b.1

-- the different origins with a route by which an attempt ever started, the oldest first
abbrev pub attempted_routes : Journal → List (Origin × Route)
attempted_routes journal = distinct pair_eq (map (λ (a : Attempt). (a.origin, a.route)) (attempts journal))
