-- Which routes a request may take.
use Rattle.std.specs.Prelude.{ℕ, Bool, not, ◌&&◌, List}
use Rattle.std.specs.List.{list_any}
use Rattle.origin_values.specs.declared.origin.Origin.{Origin}
use Rattle.route_events.specs.declared.route.Route.{Route}
use Rattle.route_events.specs.Authority.{route_eq}
use Rattle.route_events.specs.Backoff.{is_barred_by}
use Rattle.route_choice.specs.declared.broken.Broken.{Broken}
use Rattle.route_choice.specs.Contents.{kept_failures}

-- a route is one of these
abbrev pub is_listed : List Route → Route → Bool
is_listed routes r = list_any (λ t. route_eq t r) routes

-- an origin's route isn't broken at a moment, and is none of the barred ones
abbrev pub is_open_to : Broken → Origin → ℕ → List Route → Route → Bool
is_open_to broken o now barred r = not (is_barred_by (kept_failures broken o r) r now) && not (is_listed barred r)
