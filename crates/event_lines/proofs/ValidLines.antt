-- What a line says is valid.
use Rattle.std.proofs.Common.{◌≡◌, ℕ, ◌*◌, ◌≤◌, Bool, true, false, cond, List, [], ◌∷◌, ◌++◌, length, codes, Option, Result, Ok, Err, refl, ap, sym, ◌∙◌, subst, inl, inr, arith}
use Rattle.std.proofs.lemmas.Bool.{false≢true}
use Rattle.std.proofs.lemmas.List.{length-append}
use Rattle.std.proofs.lemmas.List.Elements.{All-cons, All-nil}
use Rattle.alt_base.specs.declared.moment.Moment.{Moment}
use Rattle.alt_base.specs.declared.refusal.Refused.{Refused}
use Rattle.field_text.specs.Runs.{AllIn, BeginsIn}
use Rattle.dns_names.proofs.TextNames.{spelled_name}
use Rattle.origin_values.specs.Valid.{IsAddr}
use Rattle.origin_values.specs.declared.address.Addr.TheVariants as address
use Rattle.origin_values.proofs.AddressTexts.{addr_valid}
use Rattle.origin_values.proofs.OriginTexts.{origin_valid}
use Rattle.coalescing.proofs.NamesTexts.{names_valid}
use Rattle.hex.proofs.HexLemmas.{decode_of-ok}
use Rattle.hex_text.proofs.HexReading.{hex_read}
use Rattle.route_events.specs.declared.answer.AnswerBody.{AnswerBody}
use Rattle.route_events.specs.declared.answer.AnswerBody.TheVariants as answer
use Rattle.route_events.specs.declared.fact.Fact.{Fact}
use Rattle.route_events.specs.declared.fact.Fact.TheVariants.{Request, Opened, Failed, Closed, Response, Input, Delivered, Answer, Network, Tick, Who, Stats}
use Rattle.std.specs.Prelude.{All, IfOk}
use Rattle.event_lines.specs.EventTexts.{kind_of, items_of, answer_kind_text}
use Rattle.event_lines.specs.LineGrammar.{SpellsOctets, SpellsItem, SpellItems, SpellsResponse, SpellsInput, SpellsAnswer, SpellsKind, SpellsEvent, SpellsLine}
use Rattle.event_lines.specs.WordGrammar.{spaced}
use Rattle.event_lines.specs.HaveLines.{HasText}
use Rattle.event_lines.specs.Limits.{most_octets}
use Rattle.event_lines.specs.LineReading.{line_reading}
use Rattle.event_lines.specs.Parts.{is_space}
use Rattle.event_lines.specs.Reads.{IsRead}
use Rattle.event_lines.specs.ResponseGrammar.{Field, is_value_byte, IsValue, SpellFields, is_named, values_of, further_values, joined_values}
use Rattle.event_lines.specs.Valid.{IsOptional, IsResponse, AreOctets, IsInput, IsBody, IsAnswer, IsFact, IsEvent, HasShortRecords, IsShort}
use Rattle.event_lines.specs.declared.answer_kind.AnswerKind.{AnswerKind}
use Rattle.event_lines.specs.declared.answer_kind.AnswerKind.TheVariants.{Ipv4, Ipv6, Https}
use Rattle.event_lines.specs.declared.event.Event.{Event}
use Rattle.event_lines.specs.declared.event.Event.TheVariants.{Client, Server, Skip}
use Rattle.event_lines.specs.declared.refusal.LineRefusal.{LineRefusal}
use Rattle.event_lines.proofs.AgeTexts.{age_within}
use Rattle.event_lines.proofs.Lines.{line_sound}
use Rattle.event_lines.proofs.ServerActs.{act_valid}
use Rattle.field_text.proofs.RunLemmas.{AllIn-append}

abbrev AreValues : List (List ℕ) → Type 0
AreValues [] = Unit {0}
AreValues (value ∷ values) = IsValue value × AreValues values

are_values : (name : List ℕ) (texts : List (List ℕ)) (fields : List Field) → SpellFields texts fields → AreValues (values_of name fields)
are_values name [] [] h = tt
are_values name [] (field ∷ fields) h = absurd h
are_values name (text ∷ texts) [] h = absurd h
are_values name (text ∷ texts) (field ∷ fields) h = go (is_named name field) (are_values name texts fields h.1)
  where
    go : (t : Bool) → AreValues (values_of name fields) → AreValues (cond t (field.value ∷ values_of name fields) (values_of name fields))
    go true rest = (h.0.of_value, rest)
    go false rest = rest

further_bytes : (values : List (List ℕ)) → AreValues values → AllIn is_value_byte (further_values values)
further_bytes [] h = tt
further_bytes (value ∷ values) h = (refl, (refl, AllIn-append is_value_byte value (further_values values) h.0.bytes (further_bytes values h.1)))

joined_begins : (value : List ℕ) (values : List (List ℕ)) → ¬ (BeginsIn is_space value) → ¬ (BeginsIn is_space (value ++ further_values values))
joined_begins [] [] h = λ k. k
joined_begins [] (more ∷ values) h = λ k. false≢true k
joined_begins (b ∷ bs) values h = h

joined_valid : (values : List (List ℕ)) → AreValues values → IsOptional (joined_values values)
joined_valid [] h = tt
joined_valid (value ∷ values) h = record {
  bytes = AllIn-append is_value_byte value (further_values values) h.0.bytes (further_bytes values h.1);
  begin = joined_begins value values h.0.begin;
}

response_valid : (text : List ℕ) (request status age : ℕ) (altsvc : Option (List ℕ)) → SpellsResponse text request status age altsvc → IsResponse request status age altsvc
response_valid text request status age altsvc s = record {
  request_within = s.of_request.within;
  final = s.of_status.final;
  status_within = s.of_status.number.within;
  age_within = age_within s.fields age s.of_age;
  of_altsvc = subst IsOptional (sym s.of_altsvc) (joined_valid (values_of (codes "alt-svc") s.fields) (are_values (codes "alt-svc") s.field_texts s.fields s.of_fields));
}

octets_valid : (text octets : List ℕ) → SpellsOctets text octets → AreOctets octets
octets_valid text octets s = record { some = s.some; bytes = (decode_of-ok text octets (hex_read text octets s.hex)).3 }

input_valid : (text : List ℕ) (conn : ℕ) (bytes : List ℕ) → SpellsInput text conn bytes → IsInput conn bytes
input_valid text conn bytes s = record { conn_within = s.of_number.within; of_bytes = octets_valid s.bytes_text bytes s.of_bytes }

-- what holds of each item that a text spells
all_items : (kind : AnswerKind) (P : List ℕ → Type 0) → ((text item : List ℕ) → SpellsItem kind text item → P item) → (texts items : List (List ℕ)) → SpellItems kind texts items → All P items
all_items kind P valid [] [] h = All-nil P
all_items kind P valid [] (item ∷ items) h = absurd h
all_items kind P valid (text ∷ texts) [] h = absurd h
all_items kind P valid (text ∷ texts) (item ∷ items) h = All-cons P item items (valid text item h.0) (all_items kind P valid texts items h.1)

body_valid : (body : AnswerBody) (texts : List (List ℕ)) → SpellItems (kind_of body) texts (items_of body) → IsBody body
body_valid (answer.V4 addresses) texts h = all_items Ipv4 (λ octets. IsAddr (address.V4 octets)) (λ text octets s. addr_valid text (address.V4 octets) s) texts addresses h
body_valid (answer.V6 addresses) texts h = all_items Ipv6 (λ octets. IsAddr (address.V6 octets)) (λ text octets s. addr_valid text (address.V6 octets) s) texts addresses h
body_valid (answer.Https rdatas) texts h = all_items Https AreOctets octets_valid texts rdatas h

answer_valid : (text : List ℕ) (name : List (List ℕ)) (ttl : ℕ) (body : AnswerBody) → SpellsAnswer text name ttl body → IsAnswer name ttl body
answer_valid text name ttl body s = record { of_name = spelled_name s.name_text name s.of_name; ttl_within = s.of_ttl.within; of_body = body_valid body s.item_texts s.of_items }

fact_valid : (text : List ℕ) (fact : Fact) → SpellsKind text (Client fact) → IsFact fact
fact_valid text (Request number origin) s = (s.of_number.within, origin_valid s.origin_text origin s.of_origin)
fact_valid text (Opened attempt proto addr port names) s = record {
  attempt_within = s.of_attempt.within;
  of_addr = addr_valid s.addr_text addr s.of_addr;
  some_port = s.of_port.some;
  port_within = s.of_port.number.within;
  of_names = names_valid s.names_text names s.of_names;
}
fact_valid text (Failed attempt) s = s.of_number.within
fact_valid text (Closed conn) s = s.of_number.within
fact_valid text (Response request status age altsvc) s = response_valid text request status age altsvc s
fact_valid text (Input conn bytes) s = input_valid text conn bytes s
fact_valid text (Delivered conn head payload) s = absurd s
fact_valid text (Answer name ttl body) s = answer_valid text name ttl body s
fact_valid text Network s = tt
fact_valid text Tick s = tt
fact_valid text (Who origin) s = origin_valid s.origin_text origin s.of_origin
fact_valid text Stats s = tt

event_valid : (line : List ℕ) (now : ℕ) (event : Event) → SpellsEvent line now event → IsEvent now event
event_valid line now (Client fact) s = (s.of_moment.within, fact_valid s.text fact s.of_kind)
event_valid line now (Server act) s = (s.of_moment.within, act_valid s.text act s.of_kind)
event_valid line now Skip s = absurd s.of_kind

pub line_valid : (line : List ℕ) (now : ℕ) (event : Event) → SpellsLine line now event → IsEvent now event
line_valid line now event (inl s) = subst (IsEvent now) (sym s.nothing) s.at
line_valid line now event (inr s) = event_valid line now event s

-- the digits of octets are a part of the line, and two for each
last_word : (moment kind number digits : List ℕ) (least : ℕ) → least ≤ length digits → least ≤ length (moment ++ spaced (kind ∷ number ∷ digits ∷ []))
last_word moment kind number digits least h =
    omega (
      arith,
      h,
      length-append moment (spaced (kind ∷ number ∷ digits ∷ [])),
      length-append kind (spaced (number ∷ digits ∷ [])),
      length-append number (spaced (digits ∷ [])),
      length-append digits [],
    )

input_short : (line moment text : List ℕ) (conn : ℕ) (bytes : List ℕ) → line ≡ moment ++ text → SpellsInput text conn bytes → length line ≤ most_octets → length bytes ≤ most_octets
input_short line moment text conn bytes is s small =
    let whole : line ≡ moment ++ spaced (codes "input" ∷ s.number_text ∷ s.bytes_text ∷ []) = is ∙ ap (λ t. moment ++ t) s.spelled in
    let twice : length s.bytes_text ≡ 2 * length bytes = (decode_of-ok s.bytes_text bytes (hex_read s.bytes_text bytes s.of_bytes.hex)).2 in
    let within = last_word moment (codes "input") s.number_text s.bytes_text (length bytes) (omega (arith, twice)) in
    omega (arith, small, subst (λ l. length bytes ≤ length l) (sym whole) within)

-- and so are the items of an answer
items_within : (moment kind name own ttl : List ℕ) (texts : List (List ℕ)) → length (spaced texts) ≤ length (moment ++ spaced (kind ∷ name ∷ own ∷ ttl ∷ texts))
items_within moment kind name own ttl texts =
    omega (
      arith,
      length-append moment (spaced (kind ∷ name ∷ own ∷ ttl ∷ texts)),
      length-append kind (spaced (name ∷ own ∷ ttl ∷ texts)),
      length-append name (spaced (own ∷ ttl ∷ texts)),
      length-append own (spaced (ttl ∷ texts)),
      length-append ttl (spaced texts),
    )

one_short : (most : ℕ) (text octets : List ℕ) (texts : List (List ℕ)) → SpellsOctets text octets → length (spaced (text ∷ texts)) ≤ most → length octets ≤ most
one_short most text octets texts s small =
    let twice : length text ≡ 2 * length octets = (decode_of-ok text octets (hex_read text octets s.hex)).2 in
    omega (arith, small, twice, length-append text (spaced texts))

others_short : (most : ℕ) (text : List ℕ) (texts : List (List ℕ)) → length (spaced (text ∷ texts)) ≤ most → length (spaced texts) ≤ most
others_short most text texts small = omega (arith, small, length-append text (spaced texts))

records_short : (most : ℕ) (texts rdatas : List (List ℕ)) → SpellItems Https texts rdatas → length (spaced texts) ≤ most → All (λ (octets : List ℕ). length octets ≤ most) rdatas
records_short most [] [] h small = All-nil (λ (octets : List ℕ). length octets ≤ most)
records_short most [] (rdata ∷ rdatas) h small = absurd h
records_short most (text ∷ texts) [] h small = absurd h
records_short most (text ∷ texts) (rdata ∷ rdatas) h small =
    All-cons (λ (octets : List ℕ). length octets ≤ most) rdata rdatas (one_short most text rdata texts h.0 small) (records_short most texts rdatas h.1 (others_short most text texts small))

answer_short : (line moment text : List ℕ) (name : List (List ℕ)) (ttl : ℕ) (body : AnswerBody) → line ≡ moment ++ text → SpellsAnswer text name ttl body → length line ≤ most_octets → HasShortRecords body
answer_short line moment text name ttl (answer.V4 addresses) is s small = tt
answer_short line moment text name ttl (answer.V6 addresses) is s small = tt
answer_short line moment text name ttl (answer.Https rdatas) is s small =
    let whole : line ≡ moment ++ spaced (codes "answer" ∷ s.name_text ∷ answer_kind_text Https ∷ s.ttl_text ∷ s.item_texts) = is ∙ ap (λ t. moment ++ t) s.spelled in
    let within = items_within moment (codes "answer") s.name_text (answer_kind_text Https) s.ttl_text s.item_texts in
    records_short most_octets s.item_texts rdatas s.of_items (omega (arith, small, subst (λ l. length (spaced s.item_texts) ≤ length l) (sym whole) within))

event_short : (line : List ℕ) (now : ℕ) (event : Event) → SpellsEvent line now event → length line ≤ most_octets → IsShort event
event_short line now (Client (Request number origin)) s small = tt
event_short line now (Client (Opened attempt proto addr port names)) s small = tt
event_short line now (Client (Failed attempt)) s small = tt
event_short line now (Client (Closed conn)) s small = tt
event_short line now (Client (Response request status age altsvc)) s small = tt
event_short line now (Client (Input conn bytes)) s small = input_short line s.moment s.text conn bytes s.spelled s.of_kind small
event_short line now (Client (Delivered conn head payload)) s small = tt
event_short line now (Client (Answer name ttl body)) s small = answer_short line s.moment s.text name ttl body s.spelled s.of_kind small
event_short line now (Client Network) s small = tt
event_short line now (Client Tick) s small = tt
event_short line now (Client (Who origin)) s small = tt
event_short line now (Client Stats) s small = tt
event_short line now (Server act) s small = tt
event_short line now Skip s small = tt

pub line_short : (line : List ℕ) (now : ℕ) (event : Event) → SpellsLine line now event → length line ≤ most_octets → IsShort event
line_short line now event (inl s) small = subst IsShort (sym s.nothing) tt
line_short line now event (inr s) small = event_short line now event s small

-- what is read of a line is valid
pub read_valid : (line : List ℕ) (result : Result (Moment × Event) (Refused LineRefusal)) → IsRead result (line_reading line) → IfOk result (λ read. IsEvent read.0.0 read.1)
read_valid line (Ok read) reads = line_valid line read.0.0 read.1 (line_sound line read.0.0 read.1 reads)
read_valid line (Err refusal) reads = tt

-- and has a text
texted : (now : ℕ) (event : Event) → IsEvent now event → HasText event
texted now (Client (Request number origin)) is = tt
texted now (Client (Opened attempt proto addr port names)) is = tt
texted now (Client (Failed attempt)) is = tt
texted now (Client (Closed conn)) is = tt
texted now (Client (Response request status age altsvc)) is = tt
texted now (Client (Input conn bytes)) is = tt
texted now (Client (Delivered conn head payload)) is = absurd is.1
texted now (Client (Answer name ttl body)) is = tt
texted now (Client Network) is = tt
texted now (Client Tick) is = tt
texted now (Client (Who origin)) is = tt
texted now (Client Stats) is = tt
texted now (Server act) is = tt
texted now Skip is = tt

pub read_texted : (result : Result (Moment × Event) (Refused LineRefusal)) → IfOk result (λ read. IsEvent read.0.0 read.1) → IfOk result (λ read. HasText read.1)
read_texted (Ok read) is = texted read.0.0 read.1 is
read_texted (Err refusal) is = tt

pub read_short : (line : List ℕ) (result : Result (Moment × Event) (Refused LineRefusal)) → IsRead result (line_reading line) → length line ≤ most_octets → IfOk result (λ read. IsShort read.1)
read_short line (Ok read) reads small = line_short line read.0.0 read.1 (line_sound line read.0.0 read.1 reads) small
read_short line (Err refusal) reads small = tt
