-- The table of attempts, as every contract sees it.
use Rattle.std.specs.Prelude.{ℕ, ◌+◌, Bool, not, nat_eq, List, [], ◌∷◌, ◌++◌, Option, filter, find}
use Rattle.std.specs.List.{list_any}
use Rattle.origin_values.specs.declared.origin.Origin.{Origin}
use Rattle.route_events.specs.declared.attempt.Attempt.{Attempt}
use Rattle.route_events.specs.declared.route.Route.{Route}
use Rattle.route_events.specs.Backoff.{is_on}

-- how many attempts there were, and those that are pending, in the order of their start
pub record AttemptTable : Type 0 where
  pub opened : ℕ
  pub pending : List Attempt

-- the pending one of a number
abbrev pub attempt_among : List Attempt → ℕ → Option Attempt
attempt_among attempts number = find (λ (a : Attempt). nat_eq a.number number) attempts

-- one more starts, for an origin by a route
abbrev pub started : Origin → Route → AttemptTable → AttemptTable
started o r t = record { opened = t.opened + 1; pending = t.pending ++ record { number = t.opened + 1; origin = o; route = r } ∷ [] }

-- the one of a number ends
abbrev pub other_attempts : List Attempt → ℕ → List Attempt
other_attempts attempts number = filter (λ (a : Attempt). not (nat_eq number a.number)) attempts

abbrev pub without_attempt : ℕ → AttemptTable → AttemptTable
without_attempt number t = record { opened = t.opened; pending = other_attempts t.pending number }

-- one is pending for the origin by the route
abbrev pub is_awaited : AttemptTable → Origin → Route → Bool
is_awaited t o r = list_any (is_on o r) t.pending
