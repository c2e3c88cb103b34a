-- Reading the lines of the server's acts: the fields of each kind.
use Rattle.std.specs.Prelude.{ℕ, ◌+◌, List, [], ◌∷◌, length, codes, Option, Some, None, Result, Ok, Err, if◌then◌else◌}
use Rattle.alt_base.specs.declared.refusal.At.{At}
use Rattle.origin_values.specs.declared.origin.Origin.{Origin}
use Rattle.altsvc_grammar.specs.ValueReading.{read_value}
use Rattle.altsvc_grammar.specs.declared.alt.Alt.{Alt}
use Rattle.altsvc_grammar.specs.declared.alt_svc.AltSvc.{AltSvc}
use Rattle.altsvc_grammar.specs.declared.alt_svc.AltSvc.TheVariants as value
use Rattle.altsvc_grammar.specs.declared.refusal.AltRefusal.{AltRefusal}
use Rattle.event_lines.specs.Fields.{number_of, origin_of}
use Rattle.event_lines.specs.Limits.{most_short, most_long}
use Rattle.event_lines.specs.Parts.{Part, refused, Reading, ◌>>=◌, value_or, field, is_kind}
use Rattle.event_lines.specs.declared.event.Event.{Event}
use Rattle.event_lines.specs.declared.event.Event.TheVariants.{Server}
use Rattle.event_lines.specs.declared.refusal.LineRefusal.TheVariants.{UnknownKind, BadField}
use Rattle.event_lines.specs.declared.server_act.ServerAct.{ServerAct}
use Rattle.event_lines.specs.declared.server_act.ServerAct.TheVariants.{Serve, Unserve, Offer, Withdraw, Announce, Deliver, Ask}

-- the alternatives of a value of Alt-Svc: none of `clear`
abbrev pub listed_in : Result AltSvc (At AltRefusal) → Option (List Alt)
listed_in (Ok value.Clear) = None
listed_in (Ok (value.List alts)) = Some alts
listed_in (Err at) = None

abbrev pub alts_of : List ℕ → Option (List Alt)
alts_of text = listed_in (read_value text)

-- the alternatives of all that is left behind the space that it begins with
abbrev pub alts_behind : List ℕ → ℕ → Reading (List Alt)
alts_behind [] place = refused place BadField
alts_behind (space ∷ text) place =
    value_or BadField (place + 1) (alts_of text) >>= λ alts. Ok (alts, record { text = []; place = place + 1 + length text })

abbrev pub alts_reading : Part → Reading (List Alt)
alts_reading rest = alts_behind rest.text rest.place

-- `serve ORIGIN`, `unserve ORIGIN`, `withdraw ORIGIN`
abbrev pub origin_fields : (Origin → ServerAct) → Part → Reading Event
origin_fields act rest = do
  origin ← field origin_of rest
  Ok (Server (act origin.0), origin.1)

-- `offer ORIGIN VALUE`
abbrev pub offer_fields : Part → Reading Event
offer_fields rest = do
  origin ← field origin_of rest
  alts ← alts_reading origin.1
  Ok (Server (Offer origin.0 alts.0), alts.1)

-- `deliver N C`
abbrev pub deliver_fields : Part → Reading Event
deliver_fields rest = do
  message ← field (number_of most_short) rest
  conn ← field (number_of most_long) message.1
  Ok (Server (Deliver message.0 conn.0), conn.1)

-- `ask Q`
abbrev pub ask_fields : Part → Reading Event
ask_fields rest = do
  request ← field (number_of most_short) rest
  Ok (Server (Ask request.0), request.1)

-- what the fields of a kind of the server's say
abbrev pub server_reading : Part → Part → Reading Event
server_reading kind rest =
    if is_kind kind.text (codes "serve") then origin_fields (λ origin. Serve origin) rest
    else (if is_kind kind.text (codes "unserve") then origin_fields (λ origin. Unserve origin) rest
    else (if is_kind kind.text (codes "offer") then offer_fields rest
    else (if is_kind kind.text (codes "withdraw") then origin_fields (λ origin. Withdraw origin) rest
    else (if is_kind kind.text (codes "announce") then Ok (Server Announce, rest)
    else (if is_kind kind.text (codes "deliver") then deliver_fields rest
    else (if is_kind kind.text (codes "ask") then ask_fields rest
    else refused kind.place UnknownKind))))))
