-- The lines of the server's acts, each without its moment.
use Rattle.std.specs.Prelude.{ℕ, List, ◌++◌, codes, decimal}
use Rattle.origin_values.specs.Written.{origin_text}
use Rattle.origin_values.specs.declared.origin.Origin.{Origin}
use Rattle.altsvc_grammar.specs.Written.{value_text}
use Rattle.altsvc_grammar.specs.declared.alt.Alt.{Alt}
use Rattle.altsvc_grammar.specs.declared.alt_svc.AltSvc.TheVariants as value
use Rattle.event_lines.specs.declared.server_act.ServerAct.{ServerAct}
use Rattle.event_lines.specs.declared.server_act.ServerAct.TheVariants.{Serve, Unserve, Offer, Withdraw, Announce, Deliver, Ask}

-- the canonical text of alternatives (RFC 7838 3)
abbrev pub alts_text : List Alt → List ℕ
alts_text alts = value_text (value.List alts)

abbrev pub offer_text : Origin → List Alt → List ℕ
offer_text origin alts = codes "offer " ++ origin_text origin ++ codes " " ++ alts_text alts

abbrev pub deliver_text : ℕ → ℕ → List ℕ
deliver_text message conn = codes "deliver " ++ decimal message ++ codes " " ++ decimal conn

abbrev pub act_text : ServerAct → List ℕ
act_text (Serve origin) = codes "serve " ++ origin_text origin
act_text (Unserve origin) = codes "unserve " ++ origin_text origin
act_text (Offer origin alts) = offer_text origin alts
act_text (Withdraw origin) = codes "withdraw " ++ origin_text origin
act_text Announce = codes "announce"
act_text (Deliver message conn) = deliver_text message conn
act_text (Ask request) = codes "ask " ++ decimal request
