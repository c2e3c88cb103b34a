-- Each kind's fields against the grammar. A further kind is a case of `kind_complete` and one of `kind_sound`.
use Rattle.std.proofs.Common.{◌≡◌, ℕ, ◌+◌, Bool, true, false, cond, List, [], ◌∷◌, ◌++◌, length, codes, Some, unwrap_or, ◌≤◌, append_assoc, append-nil, refl, ap, ◌∙◌, subst}
use Rattle.origin_values.specs.HostReading.{read_addr}
use Rattle.origin_values.specs.declared.address.Addr.{Addr}
use Rattle.origin_values.specs.declared.origin.Origin.{Origin}
use Rattle.origin_values.specs.declared.proto.Proto.{Proto}
use Rattle.origin_values.proofs.Addresses.{read_addr_sound}
use Rattle.coalescing.specs.declared.cert_name.CertName.{CertName}
use Rattle.route_events.specs.declared.fact.Fact.TheVariants.{Request, Opened, Failed, Closed, Response, Input, Network, Tick, Who, Stats}
use Rattle.event_lines.specs.Fields.{number_of, port_of, proto_of, origin_of, names_of, octets_of}
use Rattle.event_lines.specs.Limits.{most_short, most_long}
use Rattle.event_lines.specs.Parts.{Part, Reading, ◌>>=◌, field, is_kind}
use Rattle.event_lines.specs.LineReading.{request_fields, opened_fields, failed_fields, closed_fields, response_fields, input_fields, answer_fields, who_fields, kind_reading}
use Rattle.event_lines.specs.ResponseGrammar.{Field, SpellFields, tabbed, most_fields, altsvc_of}
use Rattle.event_lines.specs.ResponseReading.{status_reading, reply_reading, age_of}
use Rattle.event_lines.specs.ServerReading.{server_reading}
use Rattle.event_lines.specs.declared.response.Reply.{Reply}
use Rattle.event_lines.specs.LineGrammar.{SpellsStatus, SpellsRequest, SpellsOpened, SpellsNumbered, SpellsResponse, SpellsInput, SpellsWho, SpellsKind}
use Rattle.event_lines.specs.WordGrammar.{NoSpace, AreApart, spaced}
use Rattle.event_lines.specs.LineRefusals.{EndsWord, IsNext, IsStatusWord}
use Rattle.event_lines.specs.declared.event.Event.{Event}
use Rattle.event_lines.specs.declared.event.Event.TheVariants.{Client}
use Rattle.event_lines.proofs.AgeTexts.{age_told}
use Rattle.event_lines.proofs.AnswerFields.{answer_sound}
use Rattle.event_lines.proofs.FieldReads.{part, got, text_of, field_next, field_reads, field_found, joined_last, joined, behind_kind, kind_named, kind_alone}
use Rattle.event_lines.proofs.NumberTexts.{number_sound, port_sound}
use Rattle.event_lines.proofs.FieldTexts.{proto_sound, origin_field_sound, names_field_sound, octets_sound}
use Rattle.event_lines.proofs.Refusals.{got_parts}
use Rattle.event_lines.proofs.ServerFields.{server_sound}
use Rattle.event_lines.proofs.ResponseTexts.{status_apart, tabbed_ends_word, reply_complete, status_reads, status_found, reply_found}

abbrev opened_names : ℕ → Proto → Addr → ℕ → List CertName × Part → Reading Event
opened_names attempt proto addr port n = got (Client (Opened attempt proto addr port n.0)) n.1

abbrev opened_port : ℕ → Proto → Addr → ℕ × Part → Reading Event
opened_port attempt proto addr t = field names_of t.1 >>= opened_names attempt proto addr t.0

abbrev opened_addr : ℕ → Proto → Addr × Part → Reading Event
opened_addr attempt proto d = field port_of d.1 >>= opened_port attempt proto d.0

abbrev opened_proto : ℕ → Proto × Part → Reading Event
opened_proto attempt p = field read_addr p.1 >>= opened_addr attempt p.0

abbrev opened_attempt : ℕ × Part → Reading Event
opened_attempt a = field proto_of a.1 >>= opened_proto a.0

abbrev request_origin : ℕ → Origin × Part → Reading Event
request_origin number o = got (Client (Request number o.0)) o.1

abbrev request_number : ℕ × Part → Reading Event
request_number q = field origin_of q.1 >>= request_origin q.0

abbrev input_bytes : ℕ → List ℕ × Part → Reading Event
input_bytes conn b = got (Client (Input conn b.0)) b.1

abbrev input_conn : ℕ × Part → Reading Event
input_conn c = field octets_of c.1 >>= input_bytes c.0

abbrev who_origin : Origin × Part → Reading Event
who_origin o = got (Client (Who o.0)) o.1

abbrev numbered : (ℕ → Event) → ℕ × Part → Reading Event
numbered event n = got (event n.0) n.1

-- the fields that are spelled are read
pub request_complete : (q o : List ℕ) (number : ℕ) (origin : Origin) (place : ℕ) → AreApart (q ∷ o ∷ []) → number_of most_short q ≡ Some number → origin_of o ≡ Some origin
    → request_fields (part (spaced (q ∷ o ∷ [])) place) ≡ got (Client (Request number origin)) (part [] (place + 1 + length q + 1 + length o))
request_complete q o number origin place apart is_number is_origin =
    field_reads (number_of most_short) request_number q (o ∷ []) place number apart.0 is_number
    ∙ field_reads origin_of (request_origin number) o [] (place + 1 + length q) origin apart.1.0 is_origin

pub input_complete : (c b : List ℕ) (conn : ℕ) (bytes : List ℕ) (place : ℕ) → AreApart (c ∷ b ∷ []) → number_of most_long c ≡ Some conn → octets_of b ≡ Some bytes
    → input_fields (part (spaced (c ∷ b ∷ [])) place) ≡ got (Client (Input conn bytes)) (part [] (place + 1 + length c + 1 + length b))
input_complete c b conn bytes place apart is_number is_bytes =
    field_reads (number_of most_long) input_conn c (b ∷ []) place conn apart.0 is_number
    ∙ field_reads octets_of (input_bytes conn) b [] (place + 1 + length c) bytes apart.1.0 is_bytes

pub who_complete : (o : List ℕ) (origin : Origin) (place : ℕ) → NoSpace o → origin_of o ≡ Some origin → who_fields (part (spaced (o ∷ [])) place) ≡ got (Client (Who origin)) (part [] (place + 1 + length o))
who_complete o origin place apart is_origin = field_reads origin_of who_origin o [] place origin apart is_origin

pub opened_complete : (a p d t n : List ℕ) (attempt : ℕ) (proto : Proto) (addr : Addr) (port : ℕ) (names : List CertName) (place : ℕ) → AreApart (a ∷ p ∷ d ∷ t ∷ n ∷ [])
    → number_of most_long a ≡ Some attempt → proto_of p ≡ Some proto → read_addr d ≡ Some addr → port_of t ≡ Some port → names_of n ≡ Some names
    → opened_fields (part (spaced (a ∷ p ∷ d ∷ t ∷ n ∷ [])) place)
    ≡ got (Client (Opened attempt proto addr port names)) (part [] (place + 1 + length a + 1 + length p + 1 + length d + 1 + length t + 1 + length n))
opened_complete a p d t n attempt proto addr port names place apart is_attempt is_proto is_addr is_port is_names =
    field_reads (number_of most_long) opened_attempt a (p ∷ d ∷ t ∷ n ∷ []) place attempt apart.0 is_attempt
    ∙ field_reads proto_of (opened_proto attempt) p (d ∷ t ∷ n ∷ []) (place + 1 + length a) proto apart.1.0 is_proto
    ∙ field_reads read_addr (opened_addr attempt proto) d (t ∷ n ∷ []) (place + 1 + length a + 1 + length p) addr apart.1.1.0 is_addr
    ∙ field_reads port_of (opened_port attempt proto addr) t (n ∷ []) (place + 1 + length a + 1 + length p + 1 + length d) port apart.1.1.1.0 is_port
    ∙ field_reads names_of (opened_names attempt proto addr port) n [] (place + 1 + length a + 1 + length p + 1 + length d + 1 + length t) names apart.1.1.1.1.0 is_names

pub numbered_complete : (event : ℕ → Event) (n : List ℕ) (number place : ℕ) → NoSpace n → number_of most_long n ≡ Some number
    → (field (number_of most_long) (part (spaced (n ∷ [])) place) >>= numbered event) ≡ got (event number) (part [] (place + 1 + length n))
numbered_complete event n number place apart is = field_reads (number_of most_long) (numbered event) n [] place number apart is

-- what is read of a kind's fields is spelled so
pub request_sound : (text whole : List ℕ) (place : ℕ) (event : Event) (left : Part) → whole ≡ 32 ∷ (codes "request" ++ text) → EndsWord text → request_fields (part text place) ≡ got event left → left.text ≡ []
    → SpellsKind whole event
request_sound text whole place event left is ends h none =
    let f = field_found (number_of most_short) request_number text place (event, left) ends h in
    let g = field_found origin_of (request_origin f.value) f.behind (place + 1 + length f.word) (event, left) f.is_next.end f.then_is in
    let last = got_parts (Client (Request f.value g.value)) event (part g.behind (place + 1 + length f.word + 1 + length g.word)) left g.then_is in
    let spells : SpellsRequest whole f.value g.value = record {
      number_text = f.word;
      origin_text = g.word;
      spelled = behind_kind (codes "request") text whole (f.word ∷ g.word ∷ []) is
          (joined text f.word f.behind (g.word ∷ []) f.is_next (joined_last f.behind g.word g.behind g.is_next (ap text_of last.1 ∙ none)));
      apart = (f.is_next.apart, (g.is_next.apart, tt));
      of_number = number_sound most_short f.word f.value f.is_read;
      of_origin = origin_field_sound g.word g.value g.is_read;
    } in
    subst (SpellsKind whole) last.0 spells

pub input_sound : (text whole : List ℕ) (place : ℕ) (event : Event) (left : Part) → whole ≡ 32 ∷ (codes "input" ++ text) → EndsWord text → input_fields (part text place) ≡ got event left → left.text ≡ [] → SpellsKind whole event
input_sound text whole place event left is ends h none =
    let f = field_found (number_of most_long) input_conn text place (event, left) ends h in
    let g = field_found octets_of (input_bytes f.value) f.behind (place + 1 + length f.word) (event, left) f.is_next.end f.then_is in
    let last = got_parts (Client (Input f.value g.value)) event (part g.behind (place + 1 + length f.word + 1 + length g.word)) left g.then_is in
    let spells : SpellsInput whole f.value g.value = record {
      number_text = f.word;
      bytes_text = g.word;
      spelled = behind_kind (codes "input") text whole (f.word ∷ g.word ∷ []) is
          (joined text f.word f.behind (g.word ∷ []) f.is_next (joined_last f.behind g.word g.behind g.is_next (ap text_of last.1 ∙ none)));
      apart = (f.is_next.apart, (g.is_next.apart, tt));
      of_number = number_sound most_long f.word f.value f.is_read;
      of_bytes = octets_sound g.word g.value g.is_read;
    } in
    subst (SpellsKind whole) last.0 spells

pub who_sound : (text whole : List ℕ) (place : ℕ) (event : Event) (left : Part) → whole ≡ 32 ∷ (codes "who" ++ text) → EndsWord text → who_fields (part text place) ≡ got event left → left.text ≡ [] → SpellsKind whole event
who_sound text whole place event left is ends h none =
    let f = field_found origin_of who_origin text place (event, left) ends h in
    let last = got_parts (Client (Who f.value)) event (part f.behind (place + 1 + length f.word)) left f.then_is in
    let spells : SpellsWho whole f.value = record {
      origin_text = f.word;
      spelled = behind_kind (codes "who") text whole (f.word ∷ []) is (joined_last text f.word f.behind f.is_next (ap text_of last.1 ∙ none));
      apart = f.is_next.apart;
      of_origin = origin_field_sound f.word f.value f.is_read;
    } in
    subst (SpellsKind whole) last.0 spells

pub numbered_sound : (event_of : ℕ → Event) (kind text whole : List ℕ) (place : ℕ) (event : Event) (left : Part) → ((n : ℕ) → SpellsNumbered kind whole n → SpellsKind whole (event_of n))
    → whole ≡ 32 ∷ (kind ++ text) → EndsWord text → (field (number_of most_long) (part text place) >>= numbered event_of) ≡ got event left → left.text ≡ [] → SpellsKind whole event
numbered_sound event_of kind text whole place event left as_kind is ends h none =
    let f = field_found (number_of most_long) (numbered event_of) text place (event, left) ends h in
    let last = got_parts (event_of f.value) event (part f.behind (place + 1 + length f.word)) left f.then_is in
    let spells : SpellsNumbered kind whole f.value = record {
      number_text = f.word;
      spelled = behind_kind kind text whole (f.word ∷ []) is (joined_last text f.word f.behind f.is_next (ap text_of last.1 ∙ none));
      apart = f.is_next.apart;
      of_number = number_sound most_long f.word f.value f.is_read;
    } in
    subst (SpellsKind whole) last.0 (as_kind f.value spells)

pub opened_sound : (text whole : List ℕ) (place : ℕ) (event : Event) (left : Part) → whole ≡ 32 ∷ (codes "opened" ++ text) → EndsWord text → opened_fields (part text place) ≡ got event left → left.text ≡ []
    → SpellsKind whole event
opened_sound text whole place event left is ends h none =
    let a = field_found (number_of most_long) opened_attempt text place (event, left) ends h in
    let p = field_found proto_of (opened_proto a.value) a.behind (place + 1 + length a.word) (event, left) a.is_next.end a.then_is in
    let d = field_found read_addr (opened_addr a.value p.value) p.behind (place + 1 + length a.word + 1 + length p.word) (event, left) p.is_next.end p.then_is in
    let t = field_found port_of (opened_port a.value p.value d.value) d.behind (place + 1 + length a.word + 1 + length p.word + 1 + length d.word) (event, left) d.is_next.end d.then_is in
    let n = field_found names_of (opened_names a.value p.value d.value t.value) t.behind (place + 1 + length a.word + 1 + length p.word + 1 + length d.word + 1 + length t.word) (event, left) t.is_next.end t.then_is in
    let last = got_parts (Client (Opened a.value p.value d.value t.value n.value)) event
    (part n.behind (place + 1 + length a.word + 1 + length p.word + 1 + length d.word + 1 + length t.word + 1 + length n.word)) left n.then_is in
    let spells : SpellsOpened whole a.value p.value d.value t.value n.value = record {
      attempt_text = a.word;
      protocol_text = p.word;
      addr_text = d.word;
      port_text = t.word;
      names_text = n.word;
      spelled = behind_kind (codes "opened") text whole (a.word ∷ p.word ∷ d.word ∷ t.word ∷ n.word ∷ []) is
          (joined text a.word a.behind (p.word ∷ d.word ∷ t.word ∷ n.word ∷ []) a.is_next
          (joined a.behind p.word p.behind (d.word ∷ t.word ∷ n.word ∷ []) p.is_next
          (joined p.behind d.word d.behind (t.word ∷ n.word ∷ []) d.is_next
          (joined d.behind t.word t.behind (n.word ∷ []) t.is_next
          (joined_last t.behind n.word n.behind n.is_next (ap text_of last.1 ∙ none))))));
      apart = (a.is_next.apart, (p.is_next.apart, (d.is_next.apart, (t.is_next.apart, (n.is_next.apart, tt)))));
      of_attempt = number_sound most_long a.word a.value a.is_read;
      of_proto = proto_sound p.word p.value p.is_read;
      of_addr = read_addr_sound d.word d.value d.is_read;
      of_port = port_sound t.word t.value t.is_read;
      of_names = names_field_sound n.word n.value n.is_read;
    } in
    subst (SpellsKind whole) last.0 spells

-- a response
abbrev said_of : ℕ → ℕ → Reply → Event
said_of request status reply = Client (Response request status (unwrap_or reply.age 0) reply.altsvc)

abbrev response_reply : ℕ → ℕ → Reply × Part → Reading Event
response_reply request status r = got (said_of request status r.0) r.1

abbrev response_status : ℕ → ℕ × Part → Reading Event
response_status request s = reply_reading s.1 >>= response_reply request s.0

abbrev response_request : ℕ × Part → Reading Event
response_request q = status_reading q.1 >>= response_status q.0

-- the text behind the name of the kind
abbrev pub response_rest : List ℕ → List ℕ → List (List ℕ) → List ℕ
response_rest q s texts = 32 ∷ (q ++ 32 ∷ (s ++ tabbed texts))

pub response_joined : (q s : List ℕ) (texts : List (List ℕ)) → 32 ∷ (codes "response" ++ response_rest q s texts) ≡ spaced (codes "response" ∷ q ∷ s ∷ []) ++ tabbed texts
response_joined q s texts = simp (append_assoc, append-nil)

pub response_complete : (q s : List ℕ) (texts : List (List ℕ)) (fields : List Field) (request status place : ℕ) → NoSpace q → number_of most_short q ≡ Some request → SpellsStatus s status → SpellFields texts fields
    → length texts ≤ most_fields → (end : ℕ) × (response_fields (part (response_rest q s texts) place) ≡ got (Client (Response request status (age_of fields) (altsvc_of fields))) (part [] end))
response_complete q s texts fields request status place apart is_request is_status spelled few =
    let next : IsNext (response_rest q s texts) q (32 ∷ (s ++ tabbed texts)) = record { spelled = refl; apart = apart; end = refl } in
    let word : IsStatusWord (32 ∷ (s ++ tabbed texts)) s (tabbed texts) = record { spelled = refl; apart = status_apart s status is_status; end = tabbed_ends_word texts } in
    let reply = reply_complete texts fields (place + 1 + length q + 1 + length s) spelled few in (
      reply.0,
      field_next (number_of most_short) response_request (response_rest q s texts) q (32 ∷ (s ++ tabbed texts)) place request next is_request
          ∙ status_reads (response_status request) (32 ∷ (s ++ tabbed texts)) s (tabbed texts) status (place + 1 + length q) word is_status
          ∙ ap (λ (r : Reading Reply). r >>= response_reply request status) reply.1,
    )

pub response_sound : (text whole : List ℕ) (place : ℕ) (event : Event) (left : Part) → whole ≡ 32 ∷ (codes "response" ++ text) → EndsWord text → response_fields (part text place) ≡ got event left → left.text ≡ []
    → SpellsKind whole event
response_sound text whole place event left is ends h none =
    let f = field_found (number_of most_short) response_request text place (event, left) ends h in
    let s = status_found (response_status f.value) f.behind (place + 1 + length f.word) (event, left) f.is_next.end f.then_is in
    let r = reply_found (said_of f.value s.value) s.behind (place + 1 + length f.word + 1 + length s.word) event left s.then_is none in
    let spells : SpellsResponse whole f.value s.value (age_of r.fields) (altsvc_of r.fields) = record {
      request_text = f.word;
      status_text = s.word;
      field_texts = r.texts;
      fields = r.fields;
      spelled = is
          ∙ ap (λ t. 32 ∷ (codes "response" ++ t)) (f.is_next.spelled ∙ ap (λ t. 32 ∷ (f.word ++ t)) (s.is_next.spelled ∙ ap (λ t. 32 ∷ (s.word ++ t)) r.is_tabbed))
          ∙ response_joined f.word s.word r.texts;
      apart = f.is_next.apart;
      of_request = number_sound most_short f.word f.value f.is_read;
      of_status = s.is_status;
      of_fields = r.spelled;
      within = r.few;
      of_age = age_told r.fields;
      of_altsvc = refl;
    } in
    subst (SpellsKind whole) r.same spells

-- what is read of a kind, up to the end of the line
pub kind_sound : (name text whole : List ℕ) (p q : ℕ) (event : Event) (left : Part) → whole ≡ 32 ∷ (name ++ text) → EndsWord text → kind_reading (part name p) (part text q) ≡ got event left → left.text ≡ []
    → SpellsKind whole event
kind_sound name text whole p q event left is ends h none =
    go (is_kind name (codes "request")) (is_kind name (codes "opened")) (is_kind name (codes "failed")) (is_kind name (codes "closed")) (is_kind name (codes "response")) (is_kind name (codes "input"))
    (is_kind name (codes "answer")) (is_kind name (codes "network")) (is_kind name (codes "tick")) (is_kind name (codes "who")) (is_kind name (codes "stats")) refl refl refl refl refl refl refl refl refl refl refl h
  where
    named : (kind : List ℕ) → is_kind name kind ≡ true → whole ≡ 32 ∷ (kind ++ text)
    named kind t = kind_named name kind text whole is t

    alone : (kind : List ℕ) (own : Event) → (whole ≡ spaced (kind ∷ []) → SpellsKind whole own) → whole ≡ 32 ∷ (kind ++ text) → got own (part text q) ≡ got event left → SpellsKind whole event
    alone kind own spells w e = kind_alone kind text whole own event q left spells w e none

    go : (a b c d r i v n t w s : Bool) → is_kind name (codes "request") ≡ a → is_kind name (codes "opened") ≡ b → is_kind name (codes "failed") ≡ c → is_kind name (codes "closed") ≡ d → is_kind name (codes "response") ≡ r
        → is_kind name (codes "input") ≡ i → is_kind name (codes "answer") ≡ v → is_kind name (codes "network") ≡ n → is_kind name (codes "tick") ≡ t → is_kind name (codes "who") ≡ w → is_kind name (codes "stats") ≡ s
        → cond a (request_fields (part text q)) (cond b (opened_fields (part text q)) (cond c (failed_fields (part text q)) (cond d (closed_fields (part text q)) (cond r (response_fields (part text q))
        (cond i (input_fields (part text q)) (cond v (answer_fields (part text q)) (cond n (got (Client Network) (part text q)) (cond t (got (Client Tick) (part text q)) (cond w (who_fields (part text q))
        (cond s (got (Client Stats) (part text q)) (server_reading (part name p) (part text q))))))))))))
        ≡ got event left → SpellsKind whole event
    go true b c d r i v n t w s is_a is_b is_c is_d is_r is_i is_v is_n is_t is_w is_s k = request_sound text whole q event left (named (codes "request") is_a) ends k none
    go false true c d r i v n t w s is_a is_b is_c is_d is_r is_i is_v is_n is_t is_w is_s k = opened_sound text whole q event left (named (codes "opened") is_b) ends k none
    go false false true d r i v n t w s is_a is_b is_c is_d is_r is_i is_v is_n is_t is_w is_s k = numbered_sound (λ n. Client (Failed n)) (codes "failed") text whole q event left (λ n s. s) (named (codes "failed") is_c) ends k none
    go false false false true r i v n t w s is_a is_b is_c is_d is_r is_i is_v is_n is_t is_w is_s k = numbered_sound (λ n. Client (Closed n)) (codes "closed") text whole q event left (λ n s. s) (named (codes "closed") is_d) ends k none
    go false false false false true i v n t w s is_a is_b is_c is_d is_r is_i is_v is_n is_t is_w is_s k = response_sound text whole q event left (named (codes "response") is_r) ends k none
    go false false false false false true v n t w s is_a is_b is_c is_d is_r is_i is_v is_n is_t is_w is_s k = input_sound text whole q event left (named (codes "input") is_i) ends k none
    go false false false false false false true n t w s is_a is_b is_c is_d is_r is_i is_v is_n is_t is_w is_s k = answer_sound text whole q event left (named (codes "answer") is_v) ends k none
    go false false false false false false false true t w s is_a is_b is_c is_d is_r is_i is_v is_n is_t is_w is_s k = alone (codes "network") (Client Network) (λ s. s) (named (codes "network") is_n) k
    go false false false false false false false false true w s is_a is_b is_c is_d is_r is_i is_v is_n is_t is_w is_s k = alone (codes "tick") (Client Tick) (λ s. s) (named (codes "tick") is_t) k
    go false false false false false false false false false true s is_a is_b is_c is_d is_r is_i is_v is_n is_t is_w is_s k = who_sound text whole q event left (named (codes "who") is_w) ends k none
    go false false false false false false false false false false true is_a is_b is_c is_d is_r is_i is_v is_n is_t is_w is_s k = alone (codes "stats") (Client Stats) (λ s. s) (named (codes "stats") is_s) k
    go false false false false false false false false false false false is_a is_b is_c is_d is_r is_i is_v is_n is_t is_w is_s k = server_sound name text whole p q event left is ends k none
