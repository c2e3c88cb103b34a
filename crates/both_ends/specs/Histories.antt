-- A history of both ends: what happened, each with its moment, the newest first. What an entry means is read in the history
-- below it.
use Rattle.std.specs.Prelude.{◌≡◌, ℕ, List, [], ◌∷◌, Option, Some, None}
use Rattle.advertiser_core.specs.Acts.{Act}
use Rattle.event_lines.specs.Valid.{IsServerAct}
use Rattle.event_lines.specs.declared.event.Event.{Event}
use Rattle.event_lines.specs.declared.event.Event.TheVariants.{Client, Server, Skip}
use Rattle.event_lines.specs.declared.server_act.ServerAct.{ServerAct}
use Rattle.route_events.specs.declared.action.Action.{Action}
use Rattle.route_events.specs.declared.fact.Fact.{Fact}
use Rattle.route_events.specs.declared.refusal.StepRefusal.{StepRefusal}
use Rattle.route_events.specs.Journal.{Journal}
use Rattle.route_events.specs.Step.{step, refusal, newest_actions}
use Rattle.both_ends.specs.ServerActs.{with_act, asked_origin, fact_by, output_by}
use Rattle.both_ends.specs.Refusals.{act_refusal}
use Rattle.both_ends.specs.declared.fault.EndRefusal.{EndRefusal}
use Rattle.both_ends.specs.declared.fault.EndRefusal.TheVariants as refused
use Rattle.both_ends.specs.declared.output.ServerOutput.{ServerOutput}
use Rattle.both_ends.specs.declared.output.ServerOutput.TheVariants.{Nothing}
use Rattle.both_ends.specs.declared.refusal.ServerRefusal.{ServerRefusal}

abbrev pub History : Type 0
History = List (ℕ × Event)

-- the server's acts
abbrev pub with_event : Event → List Act → List Act
with_event (Client fact) acts = acts
with_event (Server act) acts = with_act act acts
with_event Skip acts = acts

abbrev pub acts_of : History → List Act
acts_of [] = []
acts_of (entry ∷ older) = with_event entry.1 (acts_of older)

-- what an event tells the client, by the acts and the journal before it
abbrev pub told_by : List Act → Journal → Event → Option Fact
told_by acts journal (Client fact) = Some fact
told_by acts journal (Server act) = fact_by acts (asked_origin journal act) act
told_by acts journal Skip = None

-- the journal after what it is told
abbrev pub after_told : Journal → ℕ → Option Fact → Journal
after_told journal now None = journal
after_told journal now (Some fact) = step journal now fact

-- the client's journal
abbrev pub journal_of : History → Journal
journal_of [] = []
journal_of (entry ∷ older) = after_told (journal_of older) entry.0 (told_by (acts_of older) (journal_of older) entry.1)

-- what the server gives for an event
abbrev pub given_by : List Act → Journal → Event → ServerOutput
given_by acts journal (Server act) = output_by acts (asked_origin journal act) act
given_by acts journal _ = Nothing

abbrev pub server_output : History → Event → ServerOutput
server_output history event = given_by (acts_of history) (journal_of history) event

-- the client's actions for what it is told
abbrev pub actions_by : Journal → ℕ → Option Fact → List Action
actions_by journal now None = []
actions_by journal now (Some fact) = newest_actions (step journal now fact)

abbrev pub client_actions : History → ℕ → Event → List Action
client_actions history now event = actions_by (journal_of history) now (told_by (acts_of history) (journal_of history) event)

-- why an event isn't taken: the server is asked first, and then the client's step
abbrev pub server_refusal : List Act → Event → Option ServerRefusal
server_refusal acts (Server act) = act_refusal acts act
server_refusal acts _ = None

abbrev pub step_refusal : Journal → ℕ → Option Fact → Option StepRefusal
step_refusal journal now None = None
step_refusal journal now (Some fact) = refusal journal now fact

abbrev pub by_step : Option StepRefusal → Option EndRefusal
by_step None = None
by_step (Some reason) = Some (refused.Step reason)

abbrev pub first_refusal : Option ServerRefusal → Option StepRefusal → Option EndRefusal
first_refusal (Some reason) later = Some (refused.Server reason)
first_refusal None later = by_step later

abbrev pub event_refusal : History → ℕ → Event → Option EndRefusal
event_refusal history now event =
    first_refusal (server_refusal (acts_of history) event) (step_refusal (journal_of history) now (told_by (acts_of history) (journal_of history) event))

-- the acts of the server are in their forms
abbrev pub IsInForm : Event → Type 0
IsInForm (Server act) = IsServerAct act
IsInForm _ = Unit {0}

-- the histories whose events were all taken
pub data IsHistory : History → Type 0 where
  Begun : IsHistory []
  Later : (older : History) (now : ℕ) (event : Event) → IsHistory older → IsInForm event → event_refusal older now event ≡ None → IsHistory ((now, event) ∷ older)
