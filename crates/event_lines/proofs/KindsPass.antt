-- Each kind is refused where its fields' forms are. A further kind is one line of `kinds_pass`, or of
-- `server_passes`.
use Rattle.std.proofs.Common.{◌≡◌, ℕ, nat_eq, List, codes, Ok, Err, unwrap_or, refl}
use Rattle.std.specs.Cmp.Lexicographic.{pointwise}
use Rattle.origin_values.specs.HostReading.{read_addr}
use Rattle.origin_values.specs.declared.address.Addr.{Addr}
use Rattle.origin_values.specs.declared.origin.Origin.{Origin}
use Rattle.origin_values.specs.declared.proto.Proto.{Proto}
use Rattle.coalescing.specs.declared.cert_name.CertName.{CertName}
use Rattle.route_events.specs.declared.answer.AnswerBody.{AnswerBody}
use Rattle.route_events.specs.declared.fact.Fact.TheVariants.{Request, Opened, Failed, Closed, Response, Input, Answer, Network, Tick, Who, Stats}
use Rattle.event_lines.specs.Fields.{number_of, port_of, proto_of, origin_of, names_of, octets_of, dns_name_of, answer_kind_of}
use Rattle.event_lines.specs.AnswerReading.{items_reading}
use Rattle.event_lines.specs.Limits.{most_short, most_long, most_ttl}
use Rattle.event_lines.specs.Parts.{Part, Reading, ◌>>=◌, field}
use Rattle.event_lines.specs.LineReading.{request_fields, opened_fields, response_fields, input_fields, answer_fields, who_fields, kind_reading, end_reading}
use Rattle.event_lines.specs.ResponseReading.{status_reading, reply_reading}
use Rattle.event_lines.specs.declared.response.Reply.{Reply}
use Rattle.event_lines.specs.LineRefusals.{OfNumber, OfPort, OfProto, OfAddr, OfOrigin, OfNames, OfOctets, OfName, NoMore, Then, StatusAndFields, KindAndItems, kinds}
use Rattle.event_lines.specs.declared.answer_kind.AnswerKind.{AnswerKind}
use Rattle.event_lines.specs.declared.event.Event.{Event}
use Rattle.event_lines.specs.declared.event.Event.TheVariants.{Client}
use Rattle.event_lines.proofs.AnswerTexts.{pass_items, pass_ttl, pass_answer}
use Rattle.event_lines.proofs.ResponseTexts.{pass_status}
use Rattle.event_lines.proofs.ServerPass.{server_passes}
use Rattle.event_lines.proofs.Skeleton.{pass_fields, ended, ended_field, says, choice, pass_kind}

request_passes : (rest : Part) → ended (request_fields rest) ≡ pass_fields (Then (OfNumber most_short) (Then OfOrigin NoMore)) rest
request_passes rest =
    ended_field (OfNumber most_short) (number_of most_short) (λ (q : ℕ × Part). field origin_of q.1 >>= λ (o : Origin × Part). says (Client (Request q.0 o.0)) o.1) (Then OfOrigin NoMore) rest (λ word. refl) λ number left.
    ended_field OfOrigin origin_of (λ (o : Origin × Part). says (Client (Request number o.0)) o.1) NoMore left (λ word. refl) λ origin end. refl

input_passes : (rest : Part) → ended (input_fields rest) ≡ pass_fields (Then (OfNumber most_long) (Then OfOctets NoMore)) rest
input_passes rest =
    ended_field (OfNumber most_long) (number_of most_long) (λ (c : ℕ × Part). field octets_of c.1 >>= λ (b : List ℕ × Part). says (Client (Input c.0 b.0)) b.1) (Then OfOctets NoMore) rest (λ word. refl) λ conn left.
    ended_field OfOctets octets_of (λ (b : List ℕ × Part). says (Client (Input conn b.0)) b.1) NoMore left (λ word. refl) λ bytes end. refl

who_passes : (rest : Part) → ended (who_fields rest) ≡ pass_fields (Then OfOrigin NoMore) rest
who_passes rest = ended_field OfOrigin origin_of (λ (o : Origin × Part). says (Client (Who o.0)) o.1) NoMore rest (λ word. refl) λ origin end. refl

numbered_passes : (event : ℕ → Event) (rest : Part) → ended (field (number_of most_long) rest >>= λ (n : ℕ × Part). says (event n.0) n.1) ≡ pass_fields (Then (OfNumber most_long) NoMore) rest
numbered_passes event rest =
    ended_field (OfNumber most_long) (number_of most_long) (λ (n : ℕ × Part). says (event n.0) n.1) NoMore rest (λ word. refl) λ number end. refl

opened_passes : (rest : Part) → ended (opened_fields rest) ≡ pass_fields (Then (OfNumber most_long) (Then OfProto (Then OfAddr (Then OfPort (Then OfNames NoMore))))) rest
opened_passes rest =
    ended_field (OfNumber most_long) (number_of most_long)
    (λ (a : ℕ × Part). field proto_of a.1 >>= λ (p : Proto × Part). field read_addr p.1 >>= λ (d : Addr × Part). field port_of d.1 >>= λ (t : ℕ × Part). field names_of t.1 >>= λ (n : List CertName × Part). says (Client (Opened a.0 p.0 d.0 t.0 n.0)) n.1)
    (Then OfProto (Then OfAddr (Then OfPort (Then OfNames NoMore)))) rest (λ word. refl) λ attempt left.
    ended_field OfProto proto_of
    (λ (p : Proto × Part). field read_addr p.1 >>= λ (d : Addr × Part). field port_of d.1 >>= λ (t : ℕ × Part). field names_of t.1 >>= λ (n : List CertName × Part). says (Client (Opened attempt p.0 d.0 t.0 n.0)) n.1)
    (Then OfAddr (Then OfPort (Then OfNames NoMore))) left (λ word. refl) λ proto left.
    ended_field OfAddr read_addr
    (λ (d : Addr × Part). field port_of d.1 >>= λ (t : ℕ × Part). field names_of t.1 >>= λ (n : List CertName × Part). says (Client (Opened attempt proto d.0 t.0 n.0)) n.1)
    (Then OfPort (Then OfNames NoMore)) left (λ word. refl) λ addr left.
    ended_field OfPort port_of
    (λ (t : ℕ × Part). field names_of t.1 >>= λ (n : List CertName × Part). says (Client (Opened attempt proto addr t.0 n.0)) n.1)
    (Then OfNames NoMore) left (λ word. refl) λ port left.
    ended_field OfNames names_of (λ (n : List CertName × Part). says (Client (Opened attempt proto addr port n.0)) n.1) NoMore left (λ word. refl) λ names end. refl

status_passes : (request : ℕ) (rest : Part)
    → ended (status_reading rest >>= λ (s : ℕ × Part). reply_reading s.1 >>= λ (r : Reply × Part). says (Client (Response request s.0 (unwrap_or r.0.age 0) r.0.altsvc)) r.1) ≡ pass_status rest
status_passes request rest = go (status_reading rest)
  where
    behind : (status : ℕ) (r : Reading Reply) → ended (r >>= λ (r : Reply × Part). says (Client (Response request status (unwrap_or r.0.age 0) r.0.altsvc)) r.1) ≡ (r >>= λ (r : Reply × Part). end_reading r.1)
    behind status (Ok reply) = refl
    behind status (Err at) = refl

    go : (s : Reading ℕ) → ended (s >>= λ (s : ℕ × Part). reply_reading s.1 >>= λ (r : Reply × Part). says (Client (Response request s.0 (unwrap_or r.0.age 0) r.0.altsvc)) r.1)
        ≡ (s >>= λ (s : ℕ × Part). reply_reading s.1 >>= λ (r : Reply × Part). end_reading r.1)
    go (Ok status) = behind status.0 (reply_reading status.1)
    go (Err at) = refl

response_passes : (rest : Part) → ended (response_fields rest) ≡ pass_fields (Then (OfNumber most_short) StatusAndFields) rest
response_passes rest =
    ended_field (OfNumber most_short) (number_of most_short)
    (λ (q : ℕ × Part). status_reading q.1 >>= λ (s : ℕ × Part). reply_reading s.1 >>= λ (r : Reply × Part). says (Client (Response q.0 s.0 (unwrap_or r.0.age 0) r.0.altsvc)) r.1)
    StatusAndFields rest (λ word. refl) λ request left. status_passes request left

kind_passes : (name : List (List ℕ)) (rest : Part)
    → ended (field answer_kind_of rest >>= λ (k : AnswerKind × Part). field (number_of most_ttl) k.1 >>= λ (t : ℕ × Part). items_reading k.0 t.1 >>= λ (b : AnswerBody × Part). says (Client (Answer name t.0 b.0)) b.1) ≡ pass_answer rest
kind_passes name rest = go (field answer_kind_of rest)
  where
    items : (ttl : ℕ) (r : Reading AnswerBody) → ended (r >>= λ (b : AnswerBody × Part). says (Client (Answer name ttl b.0)) b.1) ≡ (r >>= λ (b : AnswerBody × Part). end_reading b.1)
    items ttl (Ok body) = refl
    items ttl (Err at) = refl

    behind : (kind : AnswerKind) (r : Reading ℕ) → ended (r >>= λ (t : ℕ × Part). items_reading kind t.1 >>= λ (b : AnswerBody × Part). says (Client (Answer name t.0 b.0)) b.1) ≡ (r >>= λ (t : ℕ × Part). pass_items kind t.1)
    behind kind (Ok ttl) = items ttl.0 (items_reading kind ttl.1)
    behind kind (Err at) = refl

    go : (r : Reading AnswerKind) → ended (r >>= λ (k : AnswerKind × Part). field (number_of most_ttl) k.1 >>= λ (t : ℕ × Part). items_reading k.0 t.1 >>= λ (b : AnswerBody × Part). says (Client (Answer name t.0 b.0)) b.1)
        ≡ (r >>= λ (k : AnswerKind × Part). pass_ttl k.0 k.1)
    go (Ok kind) = behind kind.0 (field (number_of most_ttl) kind.1)
    go (Err at) = refl

answer_passes : (rest : Part) → ended (answer_fields rest) ≡ pass_fields (Then OfName KindAndItems) rest
answer_passes rest =
    ended_field OfName dns_name_of
    (λ (n : List (List ℕ) × Part). field answer_kind_of n.1 >>= λ (k : AnswerKind × Part). field (number_of most_ttl) k.1 >>= λ (t : ℕ × Part). items_reading k.0 t.1 >>= λ (b : AnswerBody × Part). says (Client (Answer n.0 t.0 b.0)) b.1)
    KindAndItems rest (λ word. refl) λ name left. kind_passes name left

pub kinds_pass : (name rest : Part) → ended (kind_reading name rest) ≡ pass_kind kinds name rest
kinds_pass name rest =
    choice (pointwise nat_eq name.text (codes "request")) _ _ _ _ (request_passes rest)
    (choice (pointwise nat_eq name.text (codes "opened")) _ _ _ _ (opened_passes rest)
    (choice (pointwise nat_eq name.text (codes "failed")) _ _ _ _ (numbered_passes (λ n. Client (Failed n)) rest)
    (choice (pointwise nat_eq name.text (codes "closed")) _ _ _ _ (numbered_passes (λ n. Client (Closed n)) rest)
    (choice (pointwise nat_eq name.text (codes "response")) _ _ _ _ (response_passes rest)
    (choice (pointwise nat_eq name.text (codes "input")) _ _ _ _ (input_passes rest)
    (choice (pointwise nat_eq name.text (codes "answer")) _ _ _ _ (answer_passes rest)
    (choice (pointwise nat_eq name.text (codes "network")) (says (Client Network) rest) _ _ _ refl
    (choice (pointwise nat_eq name.text (codes "tick")) (says (Client Tick) rest) _ _ _ refl
    (choice (pointwise nat_eq name.text (codes "who")) _ _ _ _ (who_passes rest)
    (choice (pointwise nat_eq name.text (codes "stats")) (says (Client Stats) rest) _ _ _ refl (server_passes name rest)))))))))))
