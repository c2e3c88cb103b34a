-- What is printed of a history: each event's line, and behind it, set in, those of the actions that the rules of the
-- journal answer.
use Rattle.std.specs.Prelude.{ℕ, List, [], ◌∷◌, ◌++◌, Option, codes}
use Rattle.alt_base.specs.Devices.{Grew}
use Rattle.route_events.specs.declared.action.Action.{Action}
use Rattle.route_events.specs.declared.fact.Fact.{Fact}
use Rattle.route_events.specs.Journal.{Journal}
use Rattle.route_events.specs.Step.{step, newest_actions, IsRun}
use Rattle.event_lines.specs.declared.event.Event.TheVariants.{Client}
use Rattle.event_lines.specs.ActionTexts.{action_text}
use Rattle.event_lines.specs.EventTexts.{event_text}
use Rattle.router_core.specs.declared.router.Router.{Router}
use Rattle.router_core.specs.StandsFor.{StandsFor}

abbrev pub action_line : Action → List ℕ
action_line action = codes "  " ++ action_text action ++ codes "\n"

abbrev pub actions_text : List Action → List ℕ
actions_text [] = []
actions_text (action ∷ actions) = action_line action ++ actions_text actions

-- the line of what happened at a moment
abbrev pub fact_line : ℕ → Fact → List ℕ
fact_line now fact = event_text now (Client fact)

-- the journal of some events with their moments, the newest first
abbrev pub journal_of : List (ℕ × Fact) → Journal
journal_of [] = []
journal_of (event ∷ earlier) = step (journal_of earlier) event.0 event.1

abbrev pub transcript : List (ℕ × Fact) → List ℕ
transcript [] = []
transcript (event ∷ earlier) =
    transcript earlier ++ ((fact_line event.0 event.1 ++ codes "\n") ++ actions_text (newest_actions (journal_of (event ∷ earlier))))

-- the router stands for the events that were told it, and their transcript was printed, from the bytes of before on
abbrev pub HasTold : Router → Option (List ℕ) → Option (List ℕ) → Type 0
HasTold router before now = (events : List (ℕ × Fact)) × StandsFor router (journal_of events) × Grew before now (transcript events)

-- what was printed is the transcript of some events, of which none is refused
abbrev pub IsPrinted : Option (List ℕ) → Option (List ℕ) → Type 0
IsPrinted before now = (events : List (ℕ × Fact)) × IsRun (journal_of events) × Grew before now (transcript events)
