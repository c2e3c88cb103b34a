-- What a table of failures holds: for each origin and route the failures, and its newest moment. These are all that the
-- contracts say of it.
use Rattle.std.specs.Prelude.{◌≡◌, ℕ, min}
use Rattle.origin_values.specs.declared.origin.Origin.{Origin}
use Rattle.route_events.specs.declared.route.Route.{Route}
use Rattle.route_events.specs.Backoff.{Failures, is_barred_by}
use Rattle.route_choice.specs.declared.broken.Broken.{Broken}
use Rattle.route_choice.specs.FailedRoutes.{failures_in}
use Rattle.route_choice.specs.Pairs.{IsNumberOf}

-- the failures in a row of an origin's route, `no_failures` where there is none
unfoldable pub kept_failures : Broken → Origin → Route → Failures
kept_failures broken o r = failures_in broken.failed.items o r

-- the greatest moment that a change was given, 0 before any
unfoldable pub newest_moment : Broken → ℕ
newest_moment broken = broken.newest

-- the two hold the same
pub record IsAsBefore (old new : Broken) : Type 0 where
  pub failures : (o : Origin) (r : Route) → kept_failures new o r ≡ kept_failures old o r
  pub moment : newest_moment new ≡ newest_moment old

-- so many routes are broken at a moment, over all origins
abbrev pub IsTotal : Broken → ℕ → ℕ → Type 0
IsTotal broken now n = IsNumberOf (λ o r. is_barred_by (kept_failures broken o r) r now) n

-- an answer is the total, or the greatest number of 64 bits where the total is above it
abbrev pub Counts : Broken → ℕ → ℕ → Type 0
Counts broken now answer = (n : ℕ) × (IsTotal broken now n × (answer ≡ min n 18446744073709551615))
