-- Attempts to open connections: which there were, and which are pending.
use Rattle.std.specs.Prelude.{ℕ, ◌+◌, Bool, false, not, nat_eq, List, length, Option, Some, None, is_some, filter, find}
use Rattle.std.specs.Option.{option_map_or}
use Rattle.std.specs.List.{list_any}
use Rattle.route_events.specs.declared.fact.Fact.{Fact}
use Rattle.route_events.specs.declared.fact.Fact.TheVariants as fact
use Rattle.route_events.specs.declared.action.Action.{Action}
use Rattle.route_events.specs.declared.action.Action.TheVariants as action
use Rattle.route_events.specs.declared.attempt.Attempt.{Attempt}
use Rattle.route_events.specs.Journal.{Entry, Journal, of_fact, of_action, readings}

-- the attempt that an action starts
abbrev pub attempt_in : Action → Option Attempt
attempt_in (action.OpenTo number origin route) = Some (record { number = number; origin = origin; route = route })
attempt_in _ = None

-- the attempt that a fact ends
abbrev pub ended_in : Fact → Option ℕ
ended_in (fact.Opened attempt proto addr port names) = Some attempt
ended_in (fact.Failed attempt) = Some attempt
ended_in _ = None

-- all attempts, the oldest first
abbrev pub attempts : Journal → List Attempt
attempts journal = readings (λ older. of_action attempt_in) journal

-- the number of the next attempt
abbrev pub next_attempt : Journal → ℕ
next_attempt journal = length (attempts journal) + 1

-- an entry ends the attempt of a number
abbrev pub ends : ℕ → Entry → Bool
ends number entry = option_map_or (λ ended. nat_eq ended number) (of_fact ended_in entry) false

abbrev pub has_ended : Journal → ℕ → Bool
has_ended journal number = list_any (ends number) journal

-- the attempts that have started and haven't ended
abbrev pub pending : Journal → List Attempt
pending journal = filter (λ (a : Attempt). not (has_ended journal a.number)) (attempts journal)

-- the pending attempt of a number
abbrev pub pending_attempt : Journal → ℕ → Option Attempt
pending_attempt journal number = find (λ (a : Attempt). nat_eq a.number number) (pending journal)

abbrev pub is_pending : Journal → ℕ → Bool
is_pending journal number = is_some (pending_attempt journal number)
