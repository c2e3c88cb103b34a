-- The reading of lines against their grammar.
use Rattle.std.proofs.Common.{◌≡◌, ℕ, ◌+◌, List, [], ◌∷◌, length, codes, Ok, Err, append-nil, refl, ap, sym, ◌∙◌, subst, inl, inr}
use Rattle.alt_base.specs.declared.refusal.At.{At}
use Rattle.route_events.specs.declared.fact.Fact.TheVariants.{Request, Opened, Failed, Closed, Response, Input, Delivered, Answer, Network, Tick, Who, Stats}
use Rattle.route_events.specs.declared.answer.AnswerBody.{AnswerBody}
use Rattle.route_events.specs.declared.answer.AnswerBody.TheVariants as answer
use Rattle.event_lines.specs.AnswerReading.{body_of}
use Rattle.event_lines.specs.EventTexts.{kind_of, items_of, answer_kind_text}
use Rattle.event_lines.specs.Limits.{most_short, most_long, most_ttl}
use Rattle.event_lines.specs.Parts.{Part, Reading, ◌>>=◌, refused}
use Rattle.event_lines.specs.LineReading.{kind_reading, end_reading, line_reading}
use Rattle.event_lines.specs.LineGrammar.{SpellsKind, SpellsLine}
use Rattle.event_lines.specs.WordGrammar.{SpellsNumber}
use Rattle.event_lines.specs.LineRefusals.{EndsWord}
use Rattle.event_lines.specs.declared.event.Event.{Event}
use Rattle.event_lines.specs.declared.event.Event.TheVariants.{Client, Server, Skip}
use Rattle.event_lines.specs.declared.refusal.LineRefusal.{LineRefusal}
use Rattle.event_lines.specs.declared.refusal.LineRefusal.TheVariants.{BadMoment, UnknownKind}
use Rattle.event_lines.proofs.AgeTexts.{age_read}
use Rattle.event_lines.proofs.NumberTexts.{number_complete, port_complete}
use Rattle.event_lines.proofs.AnswerFields.{answer_complete}
use Rattle.event_lines.proofs.FieldTexts.{proto_complete, origin_field_complete, names_field_complete, octets_complete, dns_name_complete}
use Rattle.event_lines.proofs.ServerActs.{act_complete, act_ends}
use Rattle.event_lines.proofs.Spaces.{no_space_from}
use Rattle.event_lines.specs.ResponseGrammar.{altsvc_of}
use Rattle.event_lines.specs.LineRefusals.{IsNext}
use Rattle.event_lines.proofs.Refusals.{Passed, passed_err}
use Rattle.event_lines.proofs.Skeleton.{ended}
use Rattle.event_lines.proofs.KindTexts.{request_complete, opened_complete, numbered_complete, input_complete, who_complete, response_rest, response_joined, response_complete, kind_sound}
use Rattle.event_lines.proofs.LineCases.{Said, part, bad_line, said, whole, behind_moment, named, begins_spaced, skip_reads, no_moment, with_moment, with_kind, no_kind, Line, Skipped, Wordless, Alone, Full, line_of}
use Rattle.origin_values.proofs.Addresses.{read_addr_complete}

abbrev got : Event → Part → Reading Event
got event left = Ok (event, left)

-- what is read of a whole is read of its kind
record Ended (reading : Reading Event) (event : Event) : Type 0 where
  left : Part
  is : reading ≡ got event left
  nothing : left.text ≡ []

pub said_parts : (m n : ℕ) (a b : Event) → said m a ≡ said n b → (m ≡ n) × (a ≡ b)
said_parts m n a b h = (ap (λ (x : ℕ × Event). x.0) (same (m, a) (n, b) h), ap (λ (x : ℕ × Event). x.1) (same (m, a) (n, b) h))
  where
    same : (x y : ℕ × Event) → ◌≡◌ {A = Said} (Ok x) (Ok y) → x ≡ y
    same x y e = cc

at_end : (now m : ℕ) (read event : Event) (place : ℕ) (text : List ℕ) → whole now (got read (part text place)) ≡ said m event → (text ≡ []) × (now ≡ m) × (read ≡ event)
at_end now m read event place [] h = let same = said_parts now m read event h in (refl, same.0, same.1)
at_end now m read event place (b ∷ bs) h = cc

whole_ok : (now m : ℕ) (event : Event) (reading : Reading Event) → whole now reading ≡ said m event → (now ≡ m) × Ended reading event
whole_ok now m event (Err why) h = cc
whole_ok now m event (Ok read) h =
    let end = at_end now m read.0 event read.1.place read.1.text h in
    (end.1, record { left = read.1; is = ap (λ e. got e read.1) end.2; nothing = end.0 })

pub said_err : (a b : At LineRefusal) → ◌≡◌ {A = Said} (Err a) (Err b) → a ≡ b
said_err a b e = cc

abbrev as_said : At LineRefusal → Said
as_said why = Err why

abbrev as_passed : At LineRefusal → Passed
as_passed why = Err why

abbrev pub at_place : ℕ → LineRefusal → At LineRefusal
at_place place reason = record { place = place; reason = reason }

end_refused : (now : ℕ) (event : Event) (end : Passed) (place : ℕ) (reason : LineRefusal) → end ≡ refused place reason → (end >>= λ (w : Unit {0}). said now event) ≡ bad_line place reason
end_refused now event (Ok w) place reason h = cc
end_refused now event (Err why) place reason h = ap as_said (passed_err why (at_place place reason) h)

end_says : (now : ℕ) (event : Event) (end : Passed) (place : ℕ) (reason : LineRefusal) → (end >>= λ (w : Unit {0}). said now event) ≡ bad_line place reason → end ≡ refused place reason
end_says now event (Ok w) place reason h = cc
end_says now event (Err why) place reason h = ap as_passed (said_err why (at_place place reason) h)

-- a whole is refused where its kind is
pub whole_refused : (now : ℕ) (reading : Reading Event) (place : ℕ) (reason : LineRefusal) → ended reading ≡ refused place reason → whole now reading ≡ bad_line place reason
whole_refused now (Err why) place reason h = ap as_said (passed_err why (at_place place reason) h)
whole_refused now (Ok read) place reason h = end_refused now read.0 (end_reading read.1) place reason h

pub whole_says : (now : ℕ) (reading : Reading Event) (place : ℕ) (reason : LineRefusal) → whole now reading ≡ bad_line place reason → ended reading ≡ refused place reason
whole_says now (Err why) place reason h = ap as_passed (said_err why (at_place place reason) h)
whole_says now (Ok read) place reason h = end_says now read.0 (end_reading read.1) place reason h

-- what is read is spelled
pub line_sound : (line : List ℕ) (now : ℕ) (event : Event) → line_reading line ≡ said now event → SpellsLine line now event
line_sound line now event h = go (line_of line)
  where
    clash : (place : ℕ) (reason : LineRefusal) → bad_line place reason ≡ said now event → ⊥
    clash place reason e = cc

    go : Line line → SpellsLine line now event
    go (Skipped s) = let same = said_parts 0 now Skip event (sym (skip_reads line s) ∙ h) in inl (record { skipped = s; at = sym same.0; nothing = sym same.1 })
    go (Wordless s) = absurd (clash 0 BadMoment (sym (no_moment line s.word s.behind s.front s.not_skipped s.none) ∙ h))
    go (Alone s) = absurd (clash (length line) UnknownKind (sym (with_moment line line [] s.now (sym (append-nil line)) s.of_moment tt ∙ no_kind s.now (length line) [] refl) ∙ h))
    go (Full s) =
        let place = length s.moment in
        let reads = with_moment line s.moment s.text s.now s.spelled s.of_moment (subst EndsWord (sym s.next.spelled) refl) ∙ with_kind s.now place s.text s.name s.behind s.next in
        let end = whole_ok s.now now event (kind_reading (part s.name (place + 1)) (part s.behind (place + 1 + length s.name))) (sym reads ∙ h) in
        inr (record {
          moment = s.moment;
          text = s.text;
          spelled = s.spelled;
          of_moment = subst (SpellsNumber most_short s.moment) end.0 s.of_moment;
          of_kind = kind_sound s.name s.behind s.text (place + 1) (place + 1 + length s.name) event end.1.left s.next.spelled s.next.end end.1.is end.1.nothing;
        })

body_itself : (body : AnswerBody) → body_of (kind_of body) (items_of body) ≡ body
body_itself (answer.V4 addresses) = refl
body_itself (answer.V6 addresses) = refl
body_itself (answer.Https rdatas) = refl

-- a kind that is spelled is read
kind_complete : (now place : ℕ) (text : List ℕ) (event : Event) → SpellsKind text event → behind_moment now (part text place) ≡ said now event
kind_complete now place text (Client (Request number origin)) s =
    named now place text (codes "request") (s.number_text ∷ s.origin_text ∷ []) s.spelled refl
    ∙ ap (whole now) (request_complete s.number_text s.origin_text number origin (place + 1 + 7) s.apart (number_complete most_short s.number_text number s.of_number) (origin_field_complete s.origin_text origin s.of_origin))
kind_complete now place text (Client (Opened attempt proto addr port names)) s =
    named now place text (codes "opened") (s.attempt_text ∷ s.protocol_text ∷ s.addr_text ∷ s.port_text ∷ s.names_text ∷ []) s.spelled refl
    ∙ ap (whole now) (opened_complete s.attempt_text s.protocol_text s.addr_text s.port_text s.names_text attempt proto addr port names (place + 1 + 6) s.apart
    (number_complete most_long s.attempt_text attempt s.of_attempt) (proto_complete s.protocol_text proto s.of_proto) (read_addr_complete s.addr_text addr s.of_addr) (port_complete s.port_text port s.of_port)
    (names_field_complete s.names_text names s.of_names))
kind_complete now place text (Client (Failed attempt)) s =
    named now place text (codes "failed") (s.number_text ∷ []) s.spelled refl
    ∙ ap (whole now) (numbered_complete (λ n. Client (Failed n)) s.number_text attempt (place + 1 + 6) s.apart (number_complete most_long s.number_text attempt s.of_number))
kind_complete now place text (Client (Closed conn)) s =
    named now place text (codes "closed") (s.number_text ∷ []) s.spelled refl
    ∙ ap (whole now) (numbered_complete (λ n. Client (Closed n)) s.number_text conn (place + 1 + 6) s.apart (number_complete most_long s.number_text conn s.of_number))
kind_complete now place text (Client (Response request status age altsvc)) s =
    let rest = response_rest s.request_text s.status_text s.field_texts in
    let next : IsNext text (codes "response") rest = record { spelled = s.spelled ∙ sym (response_joined s.request_text s.status_text s.field_texts); apart = no_space_from (codes "response") refl; end = refl } in
    let read = response_complete s.request_text s.status_text s.field_texts s.fields request status (place + 1 + 8) s.apart (number_complete most_short s.request_text request s.of_request) s.of_status s.of_fields s.within in
    with_kind now place text (codes "response") rest next
    ∙ ap (whole now) read.1
    ∙ ap (λ a. said now (Client (Response request status a (altsvc_of s.fields)))) (sym (age_read s.fields age s.of_age))
    ∙ ap (λ v. said now (Client (Response request status age v))) (sym s.of_altsvc)
kind_complete now place text (Client (Input conn bytes)) s =
    named now place text (codes "input") (s.number_text ∷ s.bytes_text ∷ []) s.spelled refl
    ∙ ap (whole now) (input_complete s.number_text s.bytes_text conn bytes (place + 1 + 5) s.apart (number_complete most_long s.number_text conn s.of_number) (octets_complete s.bytes_text bytes s.of_bytes))
kind_complete now place text (Client (Delivered conn head payload)) s = absurd s
kind_complete now place text (Client (Answer name ttl body)) s =
    named now place text (codes "answer") (s.name_text ∷ answer_kind_text (kind_of body) ∷ s.ttl_text ∷ s.item_texts) s.spelled refl
    ∙ ap (whole now) (answer_complete s.name_text s.ttl_text s.item_texts (items_of body) (kind_of body) name ttl (place + 1 + 6) s.apart (dns_name_complete s.name_text name s.of_name) (number_complete most_ttl s.ttl_text ttl s.of_ttl) s.of_items).1
    ∙ ap (λ b. said now (Client (Answer name ttl b))) (body_itself body)
kind_complete now place text (Client Network) s = named now place text (codes "network") [] s refl
kind_complete now place text (Client Tick) s = named now place text (codes "tick") [] s refl
kind_complete now place text (Client (Who origin)) s =
    named now place text (codes "who") (s.origin_text ∷ []) s.spelled refl
    ∙ ap (whole now) (who_complete s.origin_text origin (place + 1 + 3) s.apart (origin_field_complete s.origin_text origin s.of_origin))
kind_complete now place text (Client Stats) s = named now place text (codes "stats") [] s refl
kind_complete now place text (Server act) s = act_complete now place text act s
kind_complete now place text Skip s = absurd s

kind_ends : (text : List ℕ) (event : Event) → SpellsKind text event → EndsWord text
kind_ends text (Client (Request number origin)) s = begins_spaced text _ s.spelled
kind_ends text (Client (Opened attempt proto addr port names)) s = begins_spaced text _ s.spelled
kind_ends text (Client (Failed attempt)) s = begins_spaced text _ s.spelled
kind_ends text (Client (Closed conn)) s = begins_spaced text _ s.spelled
kind_ends text (Client (Response request status age altsvc)) s = begins_spaced text _ s.spelled
kind_ends text (Client (Input conn bytes)) s = begins_spaced text _ s.spelled
kind_ends text (Client (Delivered conn head payload)) s = absurd s
kind_ends text (Client (Answer name ttl body)) s = begins_spaced text _ s.spelled
kind_ends text (Client Network) s = begins_spaced text _ s
kind_ends text (Client Tick) s = begins_spaced text _ s
kind_ends text (Client (Who origin)) s = begins_spaced text _ s.spelled
kind_ends text (Client Stats) s = begins_spaced text _ s
kind_ends text (Server act) s = act_ends text act s
kind_ends text Skip s = absurd s

-- what is spelled is read
pub line_complete : (line : List ℕ) (now : ℕ) (event : Event) → SpellsLine line now event → line_reading line ≡ said now event
line_complete line now event (inl s) = skip_reads line s.skipped ∙ ap (λ n. said n Skip) (sym s.at) ∙ ap (said now) (sym s.nothing)
line_complete line now event (inr s) =
    with_moment line s.moment s.text now s.spelled s.of_moment (kind_ends s.text event s.of_kind) ∙ kind_complete now (length s.moment) s.text event s.of_kind
