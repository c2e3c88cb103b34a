-- The line of an event says it.
use Rattle.std.proofs.Common.{◌≡◌, ℕ, ◌+◌, ◌*◌, true, ◌<◌, ◌≤◌, List, [], ◌∷◌, ◌++◌, length, Option, Some, None, ◌≢◌, decimal, codes, append_assoc, append-nil, refl, ap, ◌∙◌, arith, inl, inr}
use Rattle.std.specs.Prelude.{All, map}
use Rattle.std.proofs.lemmas.List.Elements.{All-head, All-tail}
use Rattle.std.proofs.lemmas.Str.Parse.{digit_from_value}
use Rattle.std.specs.Char.{is_ascii_digit, digit_value}
use Rattle.alt_base.proofs.Numbers.{le_true}
use Rattle.dns_names.specs.TextParts.{text_form}
use Rattle.dns_names.proofs.TextNames.{name_spelled}
use Rattle.origin_values.specs.Valid.{IsAddr}
use Rattle.origin_values.specs.Written.{addr_text, origin_text}
use Rattle.origin_values.specs.declared.address.Addr.{Addr}
use Rattle.origin_values.specs.declared.address.Addr.TheVariants as address
use Rattle.origin_values.specs.declared.proto.Proto.{Proto}
use Rattle.origin_values.specs.declared.proto.Proto.TheVariants.{H2, H3, Http11, Other}
use Rattle.origin_values.proofs.AddressTexts.{addr_written}
use Rattle.origin_values.proofs.OriginTexts.{origin_written}
use Rattle.coalescing.specs.NamesWritten.{names_text}
use Rattle.coalescing.specs.declared.cert_name.CertName.{CertName}
use Rattle.coalescing.proofs.NamesTexts.{names_written}
use Rattle.hex.specs.Hex.{encode_lower}
use Rattle.hex.proofs.HexLemmas.{decode_of-encode_lower}
use Rattle.hex_text.proofs.HexReading.{hex_spelled}
use Rattle.route_events.specs.declared.answer.AnswerBody.{AnswerBody}
use Rattle.route_events.specs.declared.answer.AnswerBody.TheVariants as answer
use Rattle.route_events.specs.declared.fact.Fact.{Fact}
use Rattle.route_events.specs.declared.fact.Fact.TheVariants.{Request, Opened, Failed, Closed, Response, Input, Delivered, Answer, Network, Tick, Who, Stats}
use Rattle.event_lines.specs.EventTexts.{proto_text, opened_text, input_text, kind_of, items_of, answer_kind_text, item_text, items_text, answer_text, fact_text, event_text}
use Rattle.event_lines.specs.Limits.{most_short, most_long, most_port, most_status, most_ttl}
use Rattle.event_lines.specs.HaveLines.{HasNoLastSpace, HasLine}
use Rattle.event_lines.specs.Valid.{IsOpened, IsOptional, AreOctets, IsInput, IsBody, IsAnswer, IsFact}
use Rattle.event_lines.specs.LineGrammar.{SpellsStatus, SpellsOctets, SpellsItem, SpellItems, SpellsOpened, SpellsInput, SpellsAnswer, SpellsKind, SpellsLine}
use Rattle.event_lines.specs.WordGrammar.{SpellsNumber, AreApart, spaced}
use Rattle.event_lines.specs.declared.answer_kind.AnswerKind.{AnswerKind}
use Rattle.event_lines.specs.declared.answer_kind.AnswerKind.TheVariants.{Ipv4, Ipv6, Https}
use Rattle.event_lines.specs.LineReading.{line_reading}
use Rattle.event_lines.specs.declared.event.Event.{Event}
use Rattle.event_lines.specs.declared.event.Event.TheVariants.{Client, Server, Skip}
use Rattle.event_lines.specs.ServerTexts.{act_text}
use Rattle.event_lines.proofs.WrittenActs.{act_written}
use Rattle.event_lines.proofs.WrittenNumbers.{number_written, number_apart}
use Rattle.event_lines.proofs.WrittenResponses.{HasField, number_value, response_written}
use Rattle.event_lines.proofs.InnerBytes.{number_inner, addr_inner, origin_inner, names_inner, octets_inner, dns_name_inner}
use Rattle.event_lines.proofs.Spaces.{IsInner, no_space_from}
use Rattle.event_lines.proofs.LineCases.{said}
use Rattle.event_lines.proofs.Lines.{line_complete}
use Rattle.alt_base.proofs.Digits.{value_of_digit, value_grows}

proto_inner : (proto : Proto) → IsInner (proto_text proto)
proto_inner H2 = refl
proto_inner H3 = refl
proto_inner Http11 = refl
proto_inner Other = refl

request_joined : (q o : List ℕ) → 32 ∷ (codes "request " ++ q ++ codes " " ++ o) ≡ spaced (codes "request" ∷ q ∷ o ∷ [])
request_joined q o = simp (append_assoc, append-nil)

opened_joined : (a p d t n : List ℕ) → 32 ∷ (codes "opened " ++ a ++ codes " " ++ p ++ codes " " ++ d ++ codes " " ++ t ++ codes " " ++ n) ≡ spaced (codes "opened" ∷ a ∷ p ∷ d ∷ t ∷ n ∷ [])
opened_joined a p d t n = simp (append_assoc, append-nil)

failed_joined : (n : List ℕ) → 32 ∷ (codes "failed " ++ n) ≡ spaced (codes "failed" ∷ n ∷ [])
failed_joined n = simp append-nil

closed_joined : (n : List ℕ) → 32 ∷ (codes "closed " ++ n) ≡ spaced (codes "closed" ∷ n ∷ [])
closed_joined n = simp append-nil

input_joined : (c b : List ℕ) → 32 ∷ (codes "input " ++ c ++ codes " " ++ b) ≡ spaced (codes "input" ∷ c ∷ b ∷ [])
input_joined c b = simp (append_assoc, append-nil)

who_joined : (o : List ℕ) → 32 ∷ (codes "who " ++ o) ≡ spaced (codes "who" ∷ o ∷ [])
who_joined o = simp append-nil

octets_written : (octets : List ℕ) → AreOctets octets → SpellsOctets (encode_lower octets) octets
octets_written octets h = record { some = h.some; hex = hex_spelled (encode_lower octets) octets (decode_of-encode_lower octets h.bytes) }

input_written : (conn : ℕ) (bytes : List ℕ) → IsInput conn bytes → SpellsInput (32 ∷ input_text conn bytes) conn bytes
input_written conn bytes h = record {
  number_text = decimal conn;
  bytes_text = encode_lower bytes;
  spelled = input_joined (decimal conn) (encode_lower bytes);
  apart = (number_apart most_long conn (omega arith) h.conn_within, (no_space_from (encode_lower bytes) (octets_inner bytes h.of_bytes.bytes), tt));
  of_number = number_written most_long conn (omega arith) h.conn_within;
  of_bytes = octets_written bytes h.of_bytes;
}

-- what an answer brings, one by one
items_written : (kind : AnswerKind) (P : List ℕ → Type 0) → ((item : List ℕ) → P item → SpellsItem kind (item_text kind item) item) → (items : List (List ℕ)) → All P items → SpellItems kind (map (item_text kind) items) items
items_written kind P spells [] h = tt
items_written kind P spells (item ∷ items) h = (spells item (All-head P item items h), items_written kind P spells items (All-tail P item items h))

body_written : (body : AnswerBody) → IsBody body → SpellItems (kind_of body) (map (item_text (kind_of body)) (items_of body)) (items_of body)
body_written (answer.V4 addresses) h = items_written Ipv4 (λ octets. IsAddr (address.V4 octets)) (λ octets is. addr_written (address.V4 octets) is) addresses h
body_written (answer.V6 addresses) h = items_written Ipv6 (λ octets. IsAddr (address.V6 octets)) (λ octets is. addr_written (address.V6 octets) is) addresses h
body_written (answer.Https rdatas) h = items_written Https AreOctets octets_written rdatas h

items_apart : (kind : AnswerKind) (P : List ℕ → Type 0) → ((item : List ℕ) → P item → IsInner (item_text kind item)) → (items : List (List ℕ)) → All P items → AreApart (map (item_text kind) items)
items_apart kind P inner [] h = tt
items_apart kind P inner (item ∷ items) h = (no_space_from (item_text kind item) (inner item (All-head P item items h)), items_apart kind P inner items (All-tail P item items h))

body_apart : (body : AnswerBody) → IsBody body → AreApart (map (item_text (kind_of body)) (items_of body))
body_apart (answer.V4 addresses) h = items_apart Ipv4 (λ octets. IsAddr (address.V4 octets)) (λ octets is. addr_inner (address.V4 octets) is) addresses h
body_apart (answer.V6 addresses) h = items_apart Ipv6 (λ octets. IsAddr (address.V6 octets)) (λ octets is. addr_inner (address.V6 octets) is) addresses h
body_apart (answer.Https rdatas) h = items_apart Https AreOctets (λ octets is. octets_inner octets is.bytes) rdatas h

items_spaced : (text_of : List ℕ → List ℕ) (items : List (List ℕ)) → items_text text_of items ≡ spaced (map text_of items)
items_spaced text_of [] = refl
items_spaced text_of (item ∷ items) = ap (λ t. 32 ∷ (text_of item ++ t)) (items_spaced text_of items)

answer_joined : (n k t rest : List ℕ) → 32 ∷ (codes "answer " ++ n ++ codes " " ++ k ++ codes " " ++ t ++ rest) ≡ 32 ∷ (codes "answer" ++ 32 ∷ (n ++ 32 ∷ (k ++ 32 ∷ (t ++ rest))))
answer_joined n k t rest = simp append_assoc

answer_written : (name : List (List ℕ)) (ttl : ℕ) (body : AnswerBody) → IsAnswer name ttl body → SpellsAnswer (32 ∷ answer_text name ttl body) name ttl body
answer_written name ttl body h = record {
  name_text = text_form name;
  ttl_text = decimal ttl;
  item_texts = map (item_text (kind_of body)) (items_of body);
  spelled = answer_joined (text_form name) (answer_kind_text (kind_of body)) (decimal ttl) (items_text (item_text (kind_of body)) (items_of body))
      ∙ ap (λ rest. 32 ∷ (codes "answer" ++ 32 ∷ (text_form name ++ 32 ∷ (answer_kind_text (kind_of body) ++ 32 ∷ (decimal ttl ++ rest))))) (items_spaced (item_text (kind_of body)) (items_of body));
  apart = (
    no_space_from (text_form name) (dns_name_inner (text_form name) name (name_spelled name h.of_name)),
    (number_apart most_ttl ttl (omega arith) h.ttl_within, body_apart body h.of_body),
  );
  of_name = name_spelled name h.of_name;
  of_ttl = number_written most_ttl ttl (omega arith) h.ttl_within;
  of_items = body_written body h.of_body;
}

opened_written : (attempt : ℕ) (proto : Proto) (addr : Addr) (port : ℕ) (names : List CertName) → IsOpened attempt addr port names → SpellsOpened (32 ∷ opened_text attempt proto addr port names) attempt proto addr port names
opened_written attempt proto addr port names h = record {
  attempt_text = decimal attempt;
  protocol_text = proto_text proto;
  addr_text = addr_text addr;
  port_text = decimal port;
  names_text = names_text names;
  spelled = opened_joined (decimal attempt) (proto_text proto) (addr_text addr) (decimal port) (names_text names);
  apart = (
    number_apart most_long attempt (omega arith) h.attempt_within,
    (
      no_space_from (proto_text proto) (proto_inner proto),
      (
        no_space_from (addr_text addr) (addr_inner addr h.of_addr),
        (
          number_apart most_port port (omega arith) h.port_within,
          (no_space_from (names_text names) (names_inner names h.of_names), tt),
        ),
      ),
    ),
  );
  of_attempt = number_written most_long attempt (omega arith) h.attempt_within;
  of_proto = refl;
  of_addr = addr_written addr h.of_addr;
  of_port = record { number = number_written most_port port (omega arith) h.port_within; some = h.some_port };
  of_names = names_written names h.of_names;
}

digit_test : (b : ℕ) → 48 ≤ b → b ≤ 57 → is_ascii_digit b ≡ true
digit_test b low high = rw (le_true 48 b low, le_true b 57 high) refl

-- a digit other than 0
first_digit : (b : ℕ) → digit_value b < 10 → b ≢ 48 → 1 ≤ digit_value b
first_digit b h other =
    let range = digit_from_value b h in
    let value = value_of_digit b (digit_test b (omega (arith, range.0)) (omega (arith, range.1))) in
    omega (arith, value, range.0)

-- a status has three digits
three_digits : (text : List ℕ) (n : ℕ) → SpellsNumber most_status text n → 200 ≤ n → length text ≡ 3
three_digits [] n s least = absurd (omega (arith, s.numeral.0))
three_digits (a ∷ []) n s least = absurd (omega (arith, s.value, s.numeral.1.0))
three_digits (a ∷ b ∷ []) n s least = absurd (omega (arith, s.value, s.numeral.1.0, s.numeral.1.1.0))
three_digits (a ∷ b ∷ c ∷ []) n s least = refl
three_digits (a ∷ b ∷ c ∷ d ∷ ds) n s least =
    let some = first_digit a s.numeral.1.0 s.no_zero in
    absurd (omega (arith, s.value, s.within, some, value_grows ds ((((0 * 10 + digit_value a) * 10 + digit_value b) * 10 + digit_value c) * 10 + digit_value d)))

status_written : (status : ℕ) → 200 ≤ status → status ≤ most_status → SpellsStatus (decimal status) status
status_written status least within =
    let number = number_written most_status status (omega arith) within in
    record { three = three_digits (decimal status) status number least; number = number; final = least }

-- the value of Alt-Svc is that of one field
one_field : (request status age : ℕ) (altsvc : Option (List ℕ)) → IsOptional altsvc → HasNoLastSpace (Client (Response request status age altsvc)) → HasField altsvc
one_field request status age None is end = tt
one_field request status age (Some value) is end = record { bytes = is.bytes; begin = is.begin; end = end }

fact_written : (fact : Fact) → IsFact fact → HasNoLastSpace (Client fact) → SpellsKind (32 ∷ fact_text fact) (Client fact)
fact_written (Request number origin) h end = record {
  number_text = decimal number;
  origin_text = origin_text origin;
  spelled = request_joined (decimal number) (origin_text origin);
  apart = (number_apart most_short number (omega arith) h.0, (no_space_from (origin_text origin) (origin_inner origin h.1), tt));
  of_number = number_written most_short number (omega arith) h.0;
  of_origin = origin_written origin h.1;
}
fact_written (Opened attempt proto addr port names) h end = opened_written attempt proto addr port names h
fact_written (Failed attempt) h end = record { number_text = decimal attempt; spelled = failed_joined (decimal attempt); apart = number_apart most_long attempt (omega arith) h; of_number = number_written most_long attempt (omega arith) h }
fact_written (Closed conn) h end = record { number_text = decimal conn; spelled = closed_joined (decimal conn); apart = number_apart most_long conn (omega arith) h; of_number = number_written most_long conn (omega arith) h }
fact_written (Response request status age altsvc) h end =
    response_written request status age altsvc (one_field request status age altsvc h.of_altsvc end) (number_value age (omega (arith, h.age_within)) (no_space_from (decimal age) (number_inner age (omega (arith, h.age_within))))) h.age_within
    (number_apart most_short request (omega arith) h.request_within) (number_written most_short request (omega arith) h.request_within)
    (status_written status h.final h.status_within)
fact_written (Input conn bytes) h end = input_written conn bytes h
fact_written (Delivered conn head payload) h end = absurd h
fact_written (Answer name ttl body) h end = answer_written name ttl body h
fact_written Network h end = refl
fact_written Tick h end = refl
fact_written Stats h end = refl
fact_written (Who origin) h end = record {
  origin_text = origin_text origin;
  spelled = who_joined (origin_text origin);
  apart = no_space_from (origin_text origin) (origin_inner origin h);
  of_origin = origin_written origin h;
}

-- the line of an event says it
pub line_written : (now : ℕ) (event : Event) → HasLine now event → SpellsLine (event_text now event) now event
line_written now (Client fact) h = inr (record {
  moment = decimal now;
  text = 32 ∷ fact_text fact;
  spelled = append_assoc (decimal now) (32 ∷ []) (fact_text fact);
  of_moment = number_written most_short now (omega arith) h.valid.0;
  of_kind = fact_written fact h.valid.1 h.end;
})
line_written now (Server act) h = inr (record {
  moment = decimal now;
  text = 32 ∷ act_text act;
  spelled = append_assoc (decimal now) (32 ∷ []) (act_text act);
  of_moment = number_written most_short now (omega arith) h.valid.0;
  of_kind = act_written act h.valid.1 h.fits;
})
line_written now Skip h = inl (record { skipped = tt; at = h.valid; nothing = refl })

pub line_back : (now : ℕ) (event : Event) → HasLine now event → line_reading (event_text now event) ≡ said now event
line_back now event h = line_complete (event_text now event) now event (line_written now event h)
