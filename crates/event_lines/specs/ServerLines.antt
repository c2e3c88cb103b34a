-- The lines of the server's acts, each beside the act that it says, by how what follows the moment splits: a space, the
-- kind, and the kind's fields.
use Rattle.std.specs.Prelude.{◌≡◌, ℕ, List, [], ◌∷◌, codes}
use Rattle.origin_values.specs.OriginGrammar.{SpellsOrigin}
use Rattle.origin_values.specs.declared.origin.Origin.{Origin}
use Rattle.altsvc_grammar.specs.ValueGrammar.{SpellsValue}
use Rattle.altsvc_grammar.specs.declared.alt.Alt.{Alt}
use Rattle.altsvc_grammar.specs.declared.alt_svc.AltSvc.TheVariants as value
use Rattle.event_lines.specs.Limits.{most_short, most_long}
use Rattle.event_lines.specs.WordGrammar.{SpellsNumber, NoSpace, AreApart, spaced}
use Rattle.event_lines.specs.declared.server_act.ServerAct.{ServerAct}
use Rattle.event_lines.specs.declared.server_act.ServerAct.TheVariants.{Serve, Unserve, Offer, Withdraw, Announce, Deliver, Ask}

-- a value of Alt-Svc (RFC 7838 3) that isn't `clear`
abbrev pub SpellsAlts : List ℕ → List Alt → Type 0
SpellsAlts text alts = SpellsValue text (value.List alts)

-- a kind and an origin: `serve ORIGIN`, `unserve ORIGIN`, `withdraw ORIGIN`
pub record SpellsOriginAct (kind text : List ℕ) (origin : Origin) : Type 0 where
  pub origin_text : List ℕ
  pub spelled : text ≡ spaced (kind ∷ origin_text ∷ [])
  pub apart : NoSpace origin_text
  pub of_origin : SpellsOrigin origin_text origin

-- `offer ORIGIN VALUE`: the value is all that is left, and may have spaces
pub record SpellsOffer (text : List ℕ) (origin : Origin) (alts : List Alt) : Type 0 where
  pub origin_text : List ℕ
  pub value_text : List ℕ
  pub spelled : text ≡ spaced (codes "offer" ∷ origin_text ∷ value_text ∷ [])
  pub apart : NoSpace origin_text
  pub of_origin : SpellsOrigin origin_text origin
  pub of_value : SpellsAlts value_text alts

-- `deliver N C`
pub record SpellsDeliver (text : List ℕ) (message conn : ℕ) : Type 0 where
  pub message_text : List ℕ
  pub conn_text : List ℕ
  pub spelled : text ≡ spaced (codes "deliver" ∷ message_text ∷ conn_text ∷ [])
  pub apart : AreApart (message_text ∷ conn_text ∷ [])
  pub of_message : SpellsNumber most_short message_text message
  pub of_conn : SpellsNumber most_long conn_text conn

-- `ask Q`
pub record SpellsAsk (text : List ℕ) (request : ℕ) : Type 0 where
  pub number_text : List ℕ
  pub spelled : text ≡ spaced (codes "ask" ∷ number_text ∷ [])
  pub apart : NoSpace number_text
  pub of_number : SpellsNumber most_short number_text request

abbrev pub SpellsAct : List ℕ → ServerAct → Type 0
SpellsAct text (Serve origin) = SpellsOriginAct (codes "serve") text origin
SpellsAct text (Unserve origin) = SpellsOriginAct (codes "unserve") text origin
SpellsAct text (Offer origin alts) = SpellsOffer text origin alts
SpellsAct text (Withdraw origin) = SpellsOriginAct (codes "withdraw") text origin
SpellsAct text Announce = text ≡ spaced (codes "announce" ∷ [])
SpellsAct text (Deliver message conn) = SpellsDeliver text message conn
SpellsAct text (Ask request) = SpellsAsk text request
