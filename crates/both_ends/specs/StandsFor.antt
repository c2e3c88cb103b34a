-- For which histories both ends stand, and what a call says of each of them.
use Rattle.std.specs.Prelude.{◌≡◌, ℕ, List, ◌∷◌, Option, Some, None}
use Rattle.origin_values.specs.declared.origin.Origin.{Origin}
use Rattle.advertiser_core.specs.Acts.{Act}
use Rattle.advertiser_core.specs.StandsFor.{StandsFor as ServerStandsFor}
use Rattle.advertiser_core.specs.declared.advertiser.Advertiser.{Advertiser}
use Rattle.event_lines.specs.declared.event.Event.{Event}
use Rattle.event_lines.specs.declared.server_act.ServerAct.{ServerAct}
use Rattle.route_events.specs.declared.fact.Fact.{Fact}
use Rattle.router_core.specs.StandsFor.{StandsFor as ClientStandsFor}
use Rattle.both_ends.specs.ServerActs.{with_act, fact_by, output_by}
use Rattle.both_ends.specs.Refusals.{act_refusal}
use Rattle.both_ends.specs.Histories.{History, IsHistory, acts_of, journal_of, event_refusal, server_output, client_actions}
use Rattle.both_ends.specs.declared.both_ends.BothEnds.{BothEnds}
use Rattle.both_ends.specs.declared.fault.EndFault.{EndFault}
use Rattle.both_ends.specs.declared.fault.EndFault.TheVariants as fault
use Rattle.both_ends.specs.declared.fault.EndRefusal.TheVariants as refused
use Rattle.both_ends.specs.declared.output.Output.{Output}
use Rattle.both_ends.specs.declared.output.ServerOutput.{ServerOutput}

-- the client stands for the history's journal, and the server for its acts
pub record StandsFor (ends : BothEnds) (history : History) : Type 0 where
  pub taken : IsHistory history
  pub client : ClientStandsFor ends.router (journal_of history)
  pub server : ServerStandsFor ends.advertiser (acts_of history)

-- the event isn't refused, and gives this output and these ends
pub record Takes (new : BothEnds) (output : Output) (history : History) (now : ℕ) (event : Event) : Type 0 where
  pub not_refused : event_refusal history now event ≡ None
  pub server : output.server ≡ server_output history event
  pub actions : output.actions ≡ client_actions history now event
  pub stands : StandsFor new ((now, event) ∷ history)

-- the event is refused by the first reason
abbrev pub Refuses : BothEnds → ℕ → Event → EndFault → Type 0
Refuses old now event fault.NoMemory = Unit {0}
Refuses old now event (fault.Refused reason) = (history : History) → StandsFor old history → event_refusal history now event ≡ Some reason

-- the server takes an act: it isn't refused there, and the server stands for it; this is the fact for the client, and this what
-- the server gives
pub record ServerTakes (new : Advertiser) (fact : Fact) (given : ServerOutput) (acts : List Act) (asked : Option Origin) (act : ServerAct) : Type 0 where
  pub not_refused : act_refusal acts act ≡ None
  pub told : fact_by acts asked act ≡ Some fact
  pub output : given ≡ output_by acts asked act
  pub stands : ServerStandsFor new (with_act act acts)

-- the server refuses an act
abbrev pub ServerRefuses : Advertiser → ServerAct → EndFault → Type 0
ServerRefuses old act fault.NoMemory = Unit {0}
ServerRefuses old act (fault.Refused (refused.Server reason)) = (acts : List Act) → ServerStandsFor old acts → act_refusal acts act ≡ Some reason
ServerRefuses old act (fault.Refused (refused.Step reason)) = ⊥
