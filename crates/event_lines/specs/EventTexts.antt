-- The lines of events, each without a newline. A further kind is one case of `fact_text`, or of `act_text`.
use Rattle.std.specs.Prelude.{ℕ, ◌==◌, List, [], ◌∷◌, ◌++◌, codes, decimal, Option, Some, None, if◌then◌else◌}
use Rattle.std.specs.Net.Text.{ipv4_text}
use Rattle.dns_names.specs.TextParts.{text_form}
use Rattle.origin_values.specs.Written.{origin_text, addr_text, v6_text}
use Rattle.origin_values.specs.declared.address.Addr.{Addr}
use Rattle.origin_values.specs.declared.proto.Proto.{Proto}
use Rattle.origin_values.specs.declared.proto.Proto.TheVariants.{H2, H3, Http11, Other}
use Rattle.coalescing.specs.NamesWritten.{names_text}
use Rattle.coalescing.specs.declared.cert_name.CertName.{CertName}
use Rattle.hex.specs.Hex.{encode_lower}
use Rattle.route_events.specs.declared.answer.AnswerBody.{AnswerBody}
use Rattle.route_events.specs.declared.answer.AnswerBody.TheVariants as answer
use Rattle.route_events.specs.declared.fact.Fact.{Fact}
use Rattle.route_events.specs.declared.fact.Fact.TheVariants.{Request, Opened, Failed, Closed, Response, Input, Delivered, Answer, Network, Tick, Who, Stats}
use Rattle.event_lines.specs.ServerTexts.{act_text}
use Rattle.event_lines.specs.declared.answer_kind.AnswerKind.{AnswerKind}
use Rattle.event_lines.specs.declared.answer_kind.AnswerKind.TheVariants.{Ipv4, Ipv6, Https}
use Rattle.event_lines.specs.declared.event.Event.{Event}
use Rattle.event_lines.specs.declared.event.Event.TheVariants.{Client, Server, Skip}

-- the name of a protocol by ALPN (RFC 7301 6), or `other`
abbrev pub proto_text : Proto → List ℕ
proto_text H2 = codes "h2"
proto_text H3 = codes "h3"
proto_text Http11 = codes "http/1.1"
proto_text Other = codes "other"

abbrev pub opened_text : ℕ → Proto → Addr → ℕ → List CertName → List ℕ
opened_text attempt proto addr port names =
    codes "opened " ++ decimal attempt ++ codes " " ++ proto_text proto ++ codes " " ++ addr_text addr ++ codes " "
    ++ decimal port ++ codes " " ++ names_text names

-- the field of an age, which isn't written where that is 0
abbrev pub age_text : ℕ → List ℕ
age_text age = if age == 0 then [] else 9 ∷ (codes "age: " ++ decimal age)

-- the field of the value of Alt-Svc, where there is one
abbrev pub altsvc_text : Option (List ℕ) → List ℕ
altsvc_text None = []
altsvc_text (Some value) = 9 ∷ (codes "alt-svc: " ++ value)

abbrev pub response_text : ℕ → ℕ → ℕ → Option (List ℕ) → List ℕ
response_text request status age altsvc =
    codes "response " ++ decimal request ++ codes " " ++ decimal status ++ age_text age ++ altsvc_text altsvc

-- the octets in lower-case hex
abbrev pub input_text : ℕ → List ℕ → List ℕ
input_text conn bytes = codes "input " ++ decimal conn ++ codes " " ++ encode_lower bytes

-- what an answer brings: its kind, and one by one the octets of each address or record
abbrev pub kind_of : AnswerBody → AnswerKind
kind_of (answer.V4 addresses) = Ipv4
kind_of (answer.V6 addresses) = Ipv6
kind_of (answer.Https rdatas) = Https

abbrev pub items_of : AnswerBody → List (List ℕ)
items_of (answer.V4 addresses) = addresses
items_of (answer.V6 addresses) = addresses
items_of (answer.Https rdatas) = rdatas

-- the types of DNS records, by their names in lower case (RFC 1035 3.2.2, RFC 3596 2.1, RFC 9460 9)
abbrev pub answer_kind_text : AnswerKind → List ℕ
answer_kind_text Ipv4 = codes "a"
answer_kind_text Ipv6 = codes "aaaa"
answer_kind_text Https = codes "https"

-- the text of an address, or the octets of a record in lower-case hex
abbrev pub item_text : AnswerKind → List ℕ → List ℕ
item_text Ipv4 octets = ipv4_text octets
item_text Ipv6 octets = v6_text octets
item_text Https octets = encode_lower octets

-- items, each behind a space
abbrev pub items_text : (List ℕ → List ℕ) → List (List ℕ) → List ℕ
items_text text_of [] = []
items_text text_of (item ∷ items) = codes " " ++ text_of item ++ items_text text_of items

abbrev pub answer_text : List (List ℕ) → ℕ → AnswerBody → List ℕ
answer_text name ttl body =
    codes "answer " ++ text_form name ++ codes " " ++ answer_kind_text (kind_of body) ++ codes " " ++ decimal ttl
    ++ items_text (item_text (kind_of body)) (items_of body)

-- a frame that came whole has no line, and so no text
abbrev pub fact_text : Fact → List ℕ
fact_text (Request number origin) = codes "request " ++ decimal number ++ codes " " ++ origin_text origin
fact_text (Opened attempt proto addr port names) = opened_text attempt proto addr port names
fact_text (Failed attempt) = codes "failed " ++ decimal attempt
fact_text (Closed conn) = codes "closed " ++ decimal conn
fact_text (Response request status age altsvc) = response_text request status age altsvc
fact_text (Input conn bytes) = input_text conn bytes
fact_text (Delivered conn head payload) = []
fact_text (Answer name ttl body) = answer_text name ttl body
fact_text Network = codes "network"
fact_text Tick = codes "tick"
fact_text (Who origin) = codes "who " ++ origin_text origin
fact_text Stats = codes "stats"

-- the moment and what happened; a skipped line is empty
abbrev pub event_text : ℕ → Event → List ℕ
event_text now (Client fact) = decimal now ++ codes " " ++ fact_text fact
event_text now (Server act) = decimal now ++ codes " " ++ act_text act
event_text now Skip = []
