-- Reading a line: its moment, its kind, and the fields of the kind. A further kind is one case of `kind_reading`, or
-- of `server_reading`, and the reading of its fields.
use Rattle.std.specs.Prelude.{ℕ, ◌+◌, Bool, true, nat_eq, List, [], ◌∷◌, codes, Result, Ok, unwrap_or, if◌then◌else◌}
use Rattle.alt_base.specs.declared.refusal.At.{At}
use Rattle.origin_values.specs.HostReading.{read_addr}
use Rattle.route_events.specs.declared.fact.Fact.TheVariants.{Request, Opened, Failed, Closed, Response, Input, Answer, Network, Tick, Who, Stats}
use Rattle.event_lines.specs.AnswerReading.{items_reading}
use Rattle.event_lines.specs.Fields.{number_of, port_of, proto_of, origin_of, names_of, octets_of, dns_name_of, answer_kind_of}
use Rattle.event_lines.specs.Limits.{most_short, most_long, most_ttl}
use Rattle.event_lines.specs.Parts.{Part, first_word, behind_word, refused, Reading, ◌>>=◌, next_word, value_or, field, is_kind}
use Rattle.event_lines.specs.ResponseReading.{status_reading, reply_reading}
use Rattle.event_lines.specs.ServerReading.{server_reading}
use Rattle.event_lines.specs.declared.event.Event.{Event}
use Rattle.event_lines.specs.declared.event.Event.TheVariants.{Client, Skip}
use Rattle.event_lines.specs.declared.refusal.LineRefusal.{LineRefusal}
use Rattle.event_lines.specs.declared.refusal.LineRefusal.TheVariants.{BadMoment, UnknownKind, ExtraField}

-- `request Q ORIGIN`
abbrev pub request_fields : Part → Reading Event
request_fields rest = do
  number ← field (number_of most_short) rest
  origin ← field origin_of number.1
  Ok (Client (Request number.0 origin.0), origin.1)

-- `opened A PROTO ADDR PORT NAMES`
abbrev pub opened_fields : Part → Reading Event
opened_fields rest = do
  attempt ← field (number_of most_long) rest
  proto ← field proto_of attempt.1
  addr ← field read_addr proto.1
  port ← field port_of addr.1
  names ← field names_of port.1
  Ok (Client (Opened attempt.0 proto.0 addr.0 port.0 names.0), names.1)

-- `failed A`
abbrev pub failed_fields : Part → Reading Event
failed_fields rest = do
  attempt ← field (number_of most_long) rest
  Ok (Client (Failed attempt.0), attempt.1)

-- `closed C`
abbrev pub closed_fields : Part → Reading Event
closed_fields rest = do
  conn ← field (number_of most_long) rest
  Ok (Client (Closed conn.0), conn.1)

-- `response Q STATUS`, and the fields of the response
abbrev pub response_fields : Part → Reading Event
response_fields rest = do
  request ← field (number_of most_short) rest
  status ← status_reading request.1
  reply ← reply_reading status.1
  Ok (Client (Response request.0 status.0 (unwrap_or reply.0.age 0) reply.0.altsvc), reply.1)

-- `input C HEX`
abbrev pub input_fields : Part → Reading Event
input_fields rest = do
  conn ← field (number_of most_long) rest
  bytes ← field octets_of conn.1
  Ok (Client (Input conn.0 bytes.0), bytes.1)

-- `answer NAME a|aaaa|https TTL`, and what the answer brings
abbrev pub answer_fields : Part → Reading Event
answer_fields rest = do
  name ← field dns_name_of rest
  kind ← field answer_kind_of name.1
  ttl ← field (number_of most_ttl) kind.1
  body ← items_reading kind.0 ttl.1
  Ok (Client (Answer name.0 ttl.0 body.0), body.1)

-- `who ORIGIN`
abbrev pub who_fields : Part → Reading Event
who_fields rest = do
  origin ← field origin_of rest
  Ok (Client (Who origin.0), origin.1)

-- what a kind's fields say
abbrev pub kind_reading : Part → Part → Reading Event
kind_reading kind rest =
    if is_kind kind.text (codes "request") then request_fields rest
    else (if is_kind kind.text (codes "opened") then opened_fields rest
    else (if is_kind kind.text (codes "failed") then failed_fields rest
    else (if is_kind kind.text (codes "closed") then closed_fields rest
    else (if is_kind kind.text (codes "response") then response_fields rest
    else (if is_kind kind.text (codes "input") then input_fields rest
    else (if is_kind kind.text (codes "answer") then answer_fields rest
    else (if is_kind kind.text (codes "network") then Ok (Client Network, rest)
    else (if is_kind kind.text (codes "tick") then Ok (Client Tick, rest)
    else (if is_kind kind.text (codes "who") then who_fields rest
    else (if is_kind kind.text (codes "stats") then Ok (Client Stats, rest)
    else server_reading kind rest))))))))))

-- nothing is left, or a field follows the last one
abbrev pub nothing_at : List ℕ → ℕ → Result (Unit {0}) (At LineRefusal)
nothing_at [] place = Ok tt
nothing_at (space ∷ text) place = refused (place + 1) ExtraField

abbrev pub end_reading : Part → Result (Unit {0}) (At LineRefusal)
end_reading rest = nothing_at rest.text rest.place

abbrev pub moment_reading : Part → Reading ℕ
moment_reading line = do
  moment ← value_or BadMoment line.place (number_of most_short (first_word line).text)
  Ok (moment, behind_word line)

-- an empty line, or one that begins with `#`
abbrev pub is_skipped : List ℕ → Bool
is_skipped [] = true
is_skipped (b ∷ bs) = nat_eq b 35

abbrev pub event_reading : List ℕ → Result (ℕ × Event) (At LineRefusal)
event_reading line = do
  moment ← moment_reading (record { text = line; place = 0 })
  kind ← next_word UnknownKind moment.1
  event ← kind_reading kind.0 kind.1
  end ← end_reading event.1
  Ok (moment.0, event.0)

abbrev pub line_reading : List ℕ → Result (ℕ × Event) (At LineRefusal)
line_reading line = if is_skipped line then Ok (0, Skip) else event_reading line
