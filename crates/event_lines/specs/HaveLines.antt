-- Which events have a line, and which moments and events are read back from the line that they are written as.
use Rattle.std.specs.Prelude.{ℕ, ◌≤◌, length, Some}
use Rattle.altsvc_grammar.specs.ValueGrammar.{most_value_bytes}
use Rattle.route_events.specs.declared.fact.Fact.TheVariants.{Response, Delivered}
use Rattle.event_lines.specs.ResponseGrammar.{EndsInSpace}
use Rattle.event_lines.specs.ServerTexts.{alts_text}
use Rattle.event_lines.specs.Valid.{IsEvent}
use Rattle.event_lines.specs.declared.event.Event.{Event}
use Rattle.event_lines.specs.declared.event.Event.TheVariants.{Client, Server}
use Rattle.event_lines.specs.declared.server_act.ServerAct.TheVariants.{Offer}

-- no value of Alt-Svc that ends with a space: several fields may be joined to one, the last of them empty, and reading
-- what is written of it would drop the space
abbrev pub HasNoLastSpace : Event → Type 0
HasNoLastSpace (Client (Response request status age (Some value))) = ¬ (EndsInSpace value)
HasNoLastSpace event = Unit {0}

-- alternatives whose text has at most 16,384 bytes: it may have more than what was read of them, and no value has more
abbrev pub HasShortValue : Event → Type 0
HasShortValue (Server (Offer origin alts)) = length (alts_text alts) ≤ most_value_bytes
HasShortValue event = Unit {0}

-- no frame that came whole, which the rules make of the octets that came
abbrev pub HasText : Event → Type 0
HasText (Client (Delivered conn head payload)) = ⊥
HasText event = Unit {0}

pub record HasLine (now : ℕ) (event : Event) : Type 0 where
  pub valid : IsEvent now event
  pub end : HasNoLastSpace event
  pub fits : HasShortValue event
