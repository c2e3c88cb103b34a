-- The lines, each beside the moment and the event that it says, by how the line splits. A further kind is one case of
-- `SpellsKind`, or of `SpellsAct`.
use Rattle.std.specs.Prelude.{◌≡◌, ◌⊎◌, ℕ, ◌≤◌, List, [], ◌∷◌, ◌++◌, length, codes, Option}
use Rattle.dns_names.specs.TextGrammar.{SpellsText}
use Rattle.origin_values.specs.HostGrammar.{SpellsV4, SpellsV6, SpellsAddr}
use Rattle.origin_values.specs.OriginGrammar.{SpellsOrigin}
use Rattle.origin_values.specs.declared.address.Addr.{Addr}
use Rattle.origin_values.specs.declared.origin.Origin.{Origin}
use Rattle.origin_values.specs.declared.proto.Proto.{Proto}
use Rattle.coalescing.specs.NamesGrammar.{SpellsNames}
use Rattle.coalescing.specs.declared.cert_name.CertName.{CertName}
use Rattle.hex_text.specs.HexGrammar.{SpellsHex}
use Rattle.route_events.specs.declared.fact.Fact.TheVariants.{Request, Opened, Failed, Closed, Response, Input, Delivered, Answer, Network, Tick, Who, Stats}
use Rattle.route_events.specs.declared.answer.AnswerBody.{AnswerBody}
use Rattle.event_lines.specs.EventTexts.{proto_text, kind_of, items_of, answer_kind_text}
use Rattle.event_lines.specs.Limits.{most_short, most_long, most_port, most_status, most_ttl}
use Rattle.event_lines.specs.ResponseGrammar.{Field, SpellFields, tabbed, most_fields, HaveAge, altsvc_of}
use Rattle.event_lines.specs.ServerLines.{SpellsAct}
use Rattle.event_lines.specs.WordGrammar.{SpellsNumber, NoSpace, AreApart, spaced}
use Rattle.event_lines.specs.declared.answer_kind.AnswerKind.{AnswerKind}
use Rattle.event_lines.specs.declared.answer_kind.AnswerKind.TheVariants.{Ipv4, Ipv6, Https}
use Rattle.event_lines.specs.declared.event.Event.{Event}
use Rattle.event_lines.specs.declared.event.Event.TheVariants.{Client, Server, Skip}

-- a port is 1 to 65535
pub record SpellsPort (text : List ℕ) (port : ℕ) : Type 0 where
  pub number : SpellsNumber most_port text port
  pub some : 1 ≤ port

-- a status of a final response (RFC 9110 15) has three digits and is 200 to 599
pub record SpellsStatus (text : List ℕ) (status : ℕ) : Type 0 where
  pub three : length text ≡ 3
  pub number : SpellsNumber most_status text status
  pub final : 200 ≤ status

abbrev pub SpellsProto : List ℕ → Proto → Type 0
SpellsProto text proto = text ≡ proto_text proto

-- two hex digits for each octet, and at least one octet
pub record SpellsOctets (text octets : List ℕ) : Type 0 where
  pub some : 1 ≤ length octets
  pub hex : SpellsHex text octets

abbrev pub SpellsAnswerKind : List ℕ → AnswerKind → Type 0
SpellsAnswerKind text kind = text ≡ answer_kind_text kind

-- an address, or the octets of a record, which may be malformed
abbrev pub SpellsItem : AnswerKind → List ℕ → List ℕ → Type 0
SpellsItem Ipv4 text item = SpellsV4 text item
SpellsItem Ipv6 text item = SpellsV6 text item
SpellsItem Https text item = SpellsOctets text item

-- each text spells its item
abbrev pub SpellItems : AnswerKind → List (List ℕ) → List (List ℕ) → Type 0
SpellItems kind [] [] = Unit {0}
SpellItems kind [] (item ∷ items) = ⊥
SpellItems kind (text ∷ texts) [] = ⊥
SpellItems kind (text ∷ texts) (item ∷ items) = SpellsItem kind text item × SpellItems kind texts items

-- `request Q ORIGIN`
pub record SpellsRequest (text : List ℕ) (number : ℕ) (origin : Origin) : Type 0 where
  pub number_text : List ℕ
  pub origin_text : List ℕ
  pub spelled : text ≡ spaced (codes "request" ∷ number_text ∷ origin_text ∷ [])
  pub apart : AreApart (number_text ∷ origin_text ∷ [])
  pub of_number : SpellsNumber most_short number_text number
  pub of_origin : SpellsOrigin origin_text origin

-- `opened A PROTO ADDR PORT NAMES`
pub record SpellsOpened (text : List ℕ) (attempt : ℕ) (proto : Proto) (addr : Addr) (port : ℕ) (names : List CertName) : Type 0 where
  pub attempt_text : List ℕ
  pub protocol_text : List ℕ
  pub addr_text : List ℕ
  pub port_text : List ℕ
  pub names_text : List ℕ
  pub spelled : text ≡ spaced (codes "opened" ∷ attempt_text ∷ protocol_text ∷ addr_text ∷ port_text ∷ names_text ∷ [])
  pub apart : AreApart (attempt_text ∷ protocol_text ∷ addr_text ∷ port_text ∷ names_text ∷ [])
  pub of_attempt : SpellsNumber most_long attempt_text attempt
  pub of_proto : SpellsProto protocol_text proto
  pub of_addr : SpellsAddr addr_text addr
  pub of_port : SpellsPort port_text port
  pub of_names : SpellsNames names_text names

-- a kind and the number of an attempt or a connection: `failed A`, `closed C`
pub record SpellsNumbered (kind text : List ℕ) (number : ℕ) : Type 0 where
  pub number_text : List ℕ
  pub spelled : text ≡ spaced (kind ∷ number_text ∷ [])
  pub apart : NoSpace number_text
  pub of_number : SpellsNumber most_long number_text number

-- `response Q STATUS`, and at most 64 fields, each behind a tab
pub record SpellsResponse (text : List ℕ) (request status age : ℕ) (altsvc : Option (List ℕ)) : Type 0 where
  pub request_text : List ℕ
  pub status_text : List ℕ
  pub field_texts : List (List ℕ)
  pub fields : List Field
  pub spelled : text ≡ spaced (codes "response" ∷ request_text ∷ status_text ∷ []) ++ tabbed field_texts
  pub apart : NoSpace request_text
  pub of_request : SpellsNumber most_short request_text request
  pub of_status : SpellsStatus status_text status
  pub of_fields : SpellFields field_texts fields
  pub within : length field_texts ≤ most_fields
  pub of_age : HaveAge fields age
  pub of_altsvc : altsvc ≡ altsvc_of fields

-- `input C HEX`
pub record SpellsInput (text : List ℕ) (conn : ℕ) (bytes : List ℕ) : Type 0 where
  pub number_text : List ℕ
  pub bytes_text : List ℕ
  pub spelled : text ≡ spaced (codes "input" ∷ number_text ∷ bytes_text ∷ [])
  pub apart : AreApart (number_text ∷ bytes_text ∷ [])
  pub of_number : SpellsNumber most_long number_text conn
  pub of_bytes : SpellsOctets bytes_text bytes

-- `answer NAME a|aaaa|https TTL`, and any number of items of that kind, each behind a space
pub record SpellsAnswer (text : List ℕ) (name : List (List ℕ)) (ttl : ℕ) (body : AnswerBody) : Type 0 where
  pub name_text : List ℕ
  pub ttl_text : List ℕ
  pub item_texts : List (List ℕ)
  pub spelled : text ≡ spaced (codes "answer" ∷ name_text ∷ answer_kind_text (kind_of body) ∷ ttl_text ∷ item_texts)
  pub apart : AreApart (name_text ∷ ttl_text ∷ item_texts)
  pub of_name : SpellsText name_text name
  pub of_ttl : SpellsNumber most_ttl ttl_text ttl
  pub of_items : SpellItems (kind_of body) item_texts (items_of body)

-- `who ORIGIN`
pub record SpellsWho (text : List ℕ) (origin : Origin) : Type 0 where
  pub origin_text : List ℕ
  pub spelled : text ≡ spaced (codes "who" ∷ origin_text ∷ [])
  pub apart : NoSpace origin_text
  pub of_origin : SpellsOrigin origin_text origin

-- what follows the moment: a space, the kind, and the kind's fields. No line says that a frame came whole: the rules make
-- it of the octets that came.
abbrev pub SpellsKind : List ℕ → Event → Type 0
SpellsKind text (Client (Request number origin)) = SpellsRequest text number origin
SpellsKind text (Client (Opened attempt proto addr port names)) = SpellsOpened text attempt proto addr port names
SpellsKind text (Client (Failed attempt)) = SpellsNumbered (codes "failed") text attempt
SpellsKind text (Client (Closed conn)) = SpellsNumbered (codes "closed") text conn
SpellsKind text (Client (Response request status age altsvc)) = SpellsResponse text request status age altsvc
SpellsKind text (Client (Input conn bytes)) = SpellsInput text conn bytes
SpellsKind text (Client (Delivered conn head payload)) = ⊥
SpellsKind text (Client (Answer name ttl body)) = SpellsAnswer text name ttl body
SpellsKind text (Client Network) = text ≡ spaced (codes "network" ∷ [])
SpellsKind text (Client Tick) = text ≡ spaced (codes "tick" ∷ [])
SpellsKind text (Client (Who origin)) = SpellsWho text origin
SpellsKind text (Client Stats) = text ≡ spaced (codes "stats" ∷ [])
SpellsKind text (Server act) = SpellsAct text act
SpellsKind text Skip = ⊥

-- an empty line, or one that begins with `#`
abbrev pub IsSkipped : List ℕ → Type 0
IsSkipped [] = Unit {0}
IsSkipped (b ∷ bs) = b ≡ 35

-- a skipped line says the moment 0 and no event
pub record SpellsSkip (line : List ℕ) (now : ℕ) (event : Event) : Type 0 where
  pub skipped : IsSkipped line
  pub at : now ≡ 0
  pub nothing : event ≡ Skip

-- a moment, and an event behind it
pub record SpellsEvent (line : List ℕ) (now : ℕ) (event : Event) : Type 0 where
  pub moment : List ℕ
  pub text : List ℕ
  pub spelled : line ≡ moment ++ text
  pub of_moment : SpellsNumber most_short moment now
  pub of_kind : SpellsKind text event

abbrev pub SpellsLine : List ℕ → ℕ → Event → Type 0
SpellsLine line now event = SpellsSkip line now event ⊎ SpellsEvent line now event
