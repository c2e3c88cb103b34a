-- What a delivery can bring.
use Rattle.std.specs.Prelude.{◌≡◌, ℕ, ◌+◌, Bool, true, false, List, [], ◌∷◌, ◌++◌, length, Option, Some, None, Any, if◌then◌else◌}
use Rattle.std.specs.List.{list_any}
use Rattle.origin_values.specs.Equality.{origin_eq}
use Rattle.origin_values.specs.declared.origin.Origin.{Origin}
use Rattle.altsvc_grammar.specs.declared.alt.Alt.{Alt}
use Rattle.advertiser_core.specs.Messages.{messages}
use Rattle.advertiser_core.specs.ServedList.{is_served}
use Rattle.event_lines.specs.declared.event.Event.{Event}
use Rattle.event_lines.specs.declared.event.Event.TheVariants.{Server}
use Rattle.event_lines.specs.declared.server_act.ServerAct.TheVariants.{Offer}
use Rattle.route_events.specs.declared.action.Action.{Action}
use Rattle.route_events.specs.declared.action.Action.TheVariants.{Alternatives}
use Rattle.both_ends.specs.Histories.{History, acts_of, client_actions}

-- an action takes a value of Alt-Svc for an origin
abbrev pub takes_for : Origin → Action → Bool
takes_for o (Alternatives p value) = origin_eq p o
takes_for o _ = false

-- the event at which a value was taken for an origin last, and the history below it
pub record Taking : Type 0 where
  pub now : ℕ
  pub event : Event
  pub older : History

abbrev pub last_taking : History → Origin → Option Taking
last_taking [] o = None
last_taking (entry ∷ older) o =
    if list_any (takes_for o) (client_actions older entry.0 entry.1) then Some (record { now = entry.0; event = entry.1; older = older }) else last_taking older o

-- the message of a number was made by an offer for the origin that lists the alternative, while the origin was served
pub record WasOffered (history : History) (message : ℕ) (o : Origin) (a : Alt) : Type 0 where
  pub newer : History
  pub before : History
  pub now : ℕ
  pub alts : List Alt
  pub split : history ≡ newer ++ (now, Server (Offer o alts)) ∷ before
  pub counted : message ≡ length (messages (acts_of before)) + 1
  pub served : is_served (acts_of before) o ≡ true
  pub listed : Any (λ b. b ≡ a) alts
