-- The moments and events that lines say.
use Rattle.std.specs.Prelude.{◌≡◌, ℕ, ◌≤◌, List, length, Option, Some, None, All}
use Rattle.dns_names.specs.Names.{IsName}
use Rattle.origin_values.specs.Valid.{IsAddr, IsOrigin}
use Rattle.origin_values.specs.declared.address.Addr.{Addr}
use Rattle.origin_values.specs.declared.address.Addr.TheVariants as address
use Rattle.altsvc_grammar.specs.Valid.{AreListed}
use Rattle.coalescing.specs.NamesWritten.{HaveText}
use Rattle.coalescing.specs.declared.cert_name.CertName.{CertName}
use Rattle.field_text.specs.DeltaGrammar.{greatest_delta_seconds}
use Rattle.field_text.specs.Runs.{AllIn, BeginsIn}
use Rattle.hex.specs.Hex.{IsBytes}
use Rattle.route_events.specs.declared.answer.AnswerBody.{AnswerBody}
use Rattle.route_events.specs.declared.answer.AnswerBody.TheVariants as answer
use Rattle.route_events.specs.declared.fact.Fact.{Fact}
use Rattle.route_events.specs.declared.fact.Fact.TheVariants.{Request, Opened, Failed, Closed, Response, Input, Delivered, Answer, Network, Tick, Who, Stats}
use Rattle.event_lines.specs.Limits.{most_short, most_long, most_port, most_status, most_ttl, most_octets}
use Rattle.event_lines.specs.Parts.{is_space}
use Rattle.event_lines.specs.ResponseGrammar.{is_value_byte}
use Rattle.event_lines.specs.declared.event.Event.{Event}
use Rattle.event_lines.specs.declared.event.Event.TheVariants.{Client, Server, Skip}
use Rattle.event_lines.specs.declared.server_act.ServerAct.{ServerAct}
use Rattle.event_lines.specs.declared.server_act.ServerAct.TheVariants.{Serve, Unserve, Offer, Withdraw, Announce, Deliver, Ask}

pub record IsOpened (attempt : ℕ) (addr : Addr) (port : ℕ) (names : List CertName) : Type 0 where
  pub attempt_within : attempt ≤ most_long
  pub of_addr : IsAddr addr
  pub some_port : 1 ≤ port
  pub port_within : port ≤ most_port
  pub of_names : HaveText names

-- the values of one field or of several, joined: bytes of a value, of which the first is no space. The last may be one,
-- where the last of several values is empty.
pub record IsJoined (value : List ℕ) : Type 0 where
  pub bytes : AllIn is_value_byte value
  pub begin : ¬ (BeginsIn is_space value)

abbrev pub IsOptional : Option (List ℕ) → Type 0
IsOptional None = Unit {0}
IsOptional (Some value) = IsJoined value

pub record IsResponse (request status age : ℕ) (altsvc : Option (List ℕ)) : Type 0 where
  pub request_within : request ≤ most_short
  pub final : 200 ≤ status
  pub status_within : status ≤ most_status
  pub age_within : age ≤ greatest_delta_seconds
  pub of_altsvc : IsOptional altsvc

-- octets, at least one
pub record AreOctets (octets : List ℕ) : Type 0 where
  pub some : 1 ≤ length octets
  pub bytes : IsBytes octets

pub record IsInput (conn : ℕ) (bytes : List ℕ) : Type 0 where
  pub conn_within : conn ≤ most_long
  pub of_bytes : AreOctets bytes

-- addresses of IPv4, addresses of IPv6, or octets of records
abbrev pub IsBody : AnswerBody → Type 0
IsBody (answer.V4 addresses) = All (λ octets. IsAddr (address.V4 octets)) addresses
IsBody (answer.V6 addresses) = All (λ octets. IsAddr (address.V6 octets)) addresses
IsBody (answer.Https rdatas) = All AreOctets rdatas

pub record IsAnswer (name : List (List ℕ)) (ttl : ℕ) (body : AnswerBody) : Type 0 where
  pub of_name : IsName name
  pub ttl_within : ttl ≤ most_ttl
  pub of_body : IsBody body

-- no line says that a frame came whole
abbrev pub IsFact : Fact → Type 0
IsFact (Request number origin) = (number ≤ most_short) × IsOrigin origin
IsFact (Opened attempt proto addr port names) = IsOpened attempt addr port names
IsFact (Failed attempt) = attempt ≤ most_long
IsFact (Closed conn) = conn ≤ most_long
IsFact (Response request status age altsvc) = IsResponse request status age altsvc
IsFact (Input conn bytes) = IsInput conn bytes
IsFact (Delivered conn head payload) = ⊥
IsFact (Answer name ttl body) = IsAnswer name ttl body
IsFact Network = Unit {0}
IsFact Tick = Unit {0}
IsFact (Who origin) = IsOrigin origin
IsFact Stats = Unit {0}

-- alternatives that are offered are at least one, and no two of one key
abbrev pub IsServerAct : ServerAct → Type 0
IsServerAct (Serve origin) = IsOrigin origin
IsServerAct (Unserve origin) = IsOrigin origin
IsServerAct (Offer origin alts) = IsOrigin origin × AreListed alts
IsServerAct (Withdraw origin) = IsOrigin origin
IsServerAct Announce = Unit {0}
IsServerAct (Deliver message conn) = (message ≤ most_short) × (conn ≤ most_long)
IsServerAct (Ask request) = request ≤ most_short

-- a skipped line stands at the moment 0
abbrev pub IsEvent : ℕ → Event → Type 0
IsEvent now (Client fact) = (now ≤ most_short) × IsFact fact
IsEvent now (Server act) = (now ≤ most_short) × IsServerAct act
IsEvent now Skip = now ≡ 0

-- at most 65,536 octets come at once, and each record has at most so many
abbrev pub HasShortRecords : AnswerBody → Type 0
HasShortRecords (answer.Https rdatas) = All (λ (octets : List ℕ). length octets ≤ most_octets) rdatas
HasShortRecords _ = Unit {0}

abbrev pub IsShort : Event → Type 0
IsShort (Client (Input conn bytes)) = length bytes ≤ most_octets
IsShort (Client (Answer name ttl body)) = HasShortRecords body
IsShort event = Unit {0}
