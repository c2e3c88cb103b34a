-- What may be forgotten: a router that stands for a history stands for each one that is alike.
use Rattle.std.proofs.Common.{◌≡◌, ℕ, ◌+◌, ◌≤◌, zero, suc, true, inl, inr, nat_eq, List, [], ◌∷◌, map, find, length, Option, Some, None, is_some, All, refl, ap, sym, ◌∙◌, subst, arith}
use Rattle.alt_base.proofs.Booleans.{one_truth}
use Rattle.alias_chain.specs.Held.{in_force}
use Rattle.alias_chain.specs.Walk.{NameOf}
use Rattle.answer_store.specs.Bodies.{Kind, A, Aaaa, Https, Body, Addresses4, Addresses6, Records, of_kind}
use Rattle.answer_store.proofs.OfKinds.{in_force_of, in_force_later}
use Rattle.route_choice.specs.Capped.{capped}
use Rattle.route_events.specs.declared.answer.AnswerBody.{AnswerBody}
use Rattle.route_events.specs.declared.connection.Connection.{Connection}
use Rattle.route_events.specs.Answers.{addresses4, addresses6, records, newest_answer}
use Rattle.route_events.specs.Journal.{Journal, newest_moment}
use Rattle.route_events.specs.Requests.{standing, is_out}
use Rattle.frame_readers.specs.declared.readers.ReaderOf.{ReaderOf}
use Rattle.frame_readers.specs.Readers.{Reads, reader_among, skipped_of}
use Rattle.h2_framing.specs.Streams.{too_large_of}
use Rattle.route_events.specs.Connections.{open_connections, is_open_number}
use Rattle.route_events.specs.Frames.{octets_on}
use Rattle.route_events.specs.Records.{ConnectionRecord}
use Rattle.route_events.specs.Authority.{record_of}
use Rattle.route_events.specs.Step.{IsRun}
use Rattle.route_events.specs.Alike.{SameRecord, SameTries, SameOutstanding, SameUnfinished, Alike}
use Rattle.route_events.proofs.GoingOn.{open_goes_on}
use Rattle.route_events.proofs.Later.{alike_live, alike_failures}
use Rattle.route_events.proofs.Lists.{IsIn}
use Rattle.route_events.proofs.Sound.{IsOpened, opened_of}
use Rattle.request_dispatch.specs.declared.outstanding.Outstanding.{Outstanding}
use Rattle.request_dispatch.specs.declared.waiting.Waiting.{Waiting}
use Rattle.request_dispatch.specs.RequestTable.{request_among, requests_of}
use Rattle.router_core.specs.declared.router.Router.{Router}
use Rattle.router_core.specs.Holds.{AreTried, IsOut, AreOut, AreRead}
use Rattle.router_core.specs.StandsFor.{StandsFor}
use Rattle.router_core.specs.StoredAnswers.{as_kind, answer_of}
use Rattle.router_core.proofs.Resolving.{newest_as}

same_record : (a b : ConnectionRecord) → SameRecord a b → a ≡ b
same_record a b same = λ i. record {
  made = same.made i;
  bound = same.bound i;
  gated = same.gated i;
  holds = λ o. same.holds o i;
  misdirected = λ o. same.misdirected o i;
  outstanding = same.outstanding i;
  sends = same.sends i;
}

first_of_all : {X : Type 0} (P : X → Type 0) (x : X) (xs : List X) → All P (x ∷ xs) → P x
first_of_all P x xs h = h zero x (omega arith)

rest_of_all : {X : Type 0} (P : X → Type 0) (x : X) (xs : List X) → All P (x ∷ xs) → All P xs
rest_of_all P x xs h = λ n d within. h (suc n) d (omega (arith, within))

same_records : (j k : Journal) (cs : List Connection) → All (λ c. SameRecord (record_of j c) (record_of k c)) cs → map (record_of j) cs ≡ map (record_of k) cs
same_records j k [] h = refl
same_records j k (c ∷ cs) h =
    λ i. same_record (record_of j c) (record_of k c) (first_of_all (λ c. SameRecord (record_of j c) (record_of k c)) c cs h) i ∷ same_records j k cs (rest_of_all (λ c. SameRecord (record_of j c) (record_of k c)) c cs h) i

same_tried : (j k : Journal) (ws : List Waiting) → All (SameTries j k) (requests_of ws) → AreTried j ws → AreTried k ws
same_tried j k [] h was = tt
same_tried j k (w ∷ ws) h was =
    (λ r. was.0 r ∙ first_of_all (SameTries j k) w.request (requests_of ws) h r, same_tried j k ws (rest_of_all (SameTries j k) w.request (requests_of ws) h) was.1)

same_out : (j k : Journal) (outs : List Outstanding) → Alike j k → AreOut j outs → AreOut k outs
same_out j k outs alike are = record {
  out = λ n. are.out n ∙ one_truth (is_out (standing j n)) (is_out (standing k n)) (λ out. (alike.outstanding n out).out) (alike.no_more n);
  known = λ n x found. known_as n x found (alike.outstanding n (sym (are.out n) ∙ ap is_some found)) (are.known n x found);
}
  where
    known_as : (n : ℕ) (x : Outstanding) → request_among outs n ≡ Some x → SameOutstanding j k n → IsOut j n x → IsOut k n x
    known_as n x found same was = record {
      request = sym same.request ∙ was.request;
      sent = sym same.sent ∙ was.sent;
      tried = λ r. was.tried r ∙ same.tried x.request was.request r;
    }

of_all : {X : Type 0} (P : X → Type 0) (x : X) (xs : List X) → IsIn x xs → All P xs → P x
of_all P x [] found h = absurd found
of_all P x (y ∷ ys) (inl same) h = subst P (sym same) (first_of_all P y ys h)
of_all P x (y ∷ ys) (inr more) h = of_all P x ys more (rest_of_all P y ys h)

-- the same frame is unfinished in both, and no head was too large
reads_alike : (rs : List ReaderOf) (j k : Journal) (n : ℕ) → SameUnfinished j k n → too_large_of (octets_on k n) ≡ None → Reads rs n (octets_on j n) → Reads rs n (octets_on k n)
reads_alike rs j k n same going was = record {
  keeps = record {
    part = was.keeps.part ∙ same.held;
    counted = ap (λ held. length held + skipped_of (reader_among rs n)) (sym same.held) ∙ was.keeps.counted ∙ same.count;
  };
  going = going;
}

same_read : (rs : List ReaderOf) (j k : Journal) → Alike j k → IsRun k → AreRead j rs → AreRead k rs
same_read rs j k alike run are = record {
  octets = λ n h. of_number n h (opened_of j n (open_too n ∙ h)) (opened_of k n h);
  no_other = λ n h. are.no_other n (open_too n ∙ h);
}
  where
    open_too : (n : ℕ) → is_open_number j n ≡ is_open_number k n
    open_too n = ap (λ cs. is_some (find (λ (c : Connection). nat_eq c.number n) cs)) alike.connections

    of_number : (n : ℕ) → is_open_number k n ≡ true → IsOpened j n → IsOpened k n → Reads rs n (octets_on k n)
    of_number n h in_j in_k =
        reads_alike rs j k n
        (subst (SameUnfinished j k) in_j.numbered (of_all (λ (c : Connection). SameUnfinished j k c.number) in_j.connection (open_connections j) in_j.there alike.unfinished))
        (subst (λ m. too_large_of (octets_on k m) ≡ None) in_k.numbered (of_all (λ (c : Connection). too_large_of (octets_on k c.number) ≡ None) in_k.connection (open_connections k) in_k.there (open_goes_on k run)))
        (are.octets n (open_too n ∙ h))

-- of each name and kind the same answer is in force at each later moment
same_kind : {B : Type 0} (body : B → Body) (brings : AnswerBody → Option B) (j k : Journal) (name : NameOf) (now : ℕ) → newest_moment j ≡ newest_moment k →
    in_force (newest_moment j) (newest_answer brings j name) ≡ in_force (newest_moment k) (newest_answer brings k name) → newest_moment j ≤ now →
    in_force now (newest_answer (as_kind body brings) j name) ≡ in_force now (newest_answer (as_kind body brings) k name)
same_kind body brings j k name now at same later =
    ap (in_force now) (newest_as body brings j name)
    ∙ sym (in_force_of body now (newest_answer brings j name))
    ∙ ap (of_kind body)
    (sym (in_force_later (newest_moment j) now (newest_answer brings j name) later)
    ∙ ap (in_force now) same
    ∙ in_force_later (newest_moment k) now (newest_answer brings k name) (omega (arith, at, later)))
    ∙ in_force_of body now (newest_answer brings k name)
    ∙ sym (ap (in_force now) (newest_as body brings k name))

same_answers : (j k : Journal) (name : NameOf) (kind : Kind) (now : ℕ) → Alike j k → newest_moment j ≤ now → in_force now (answer_of j name kind) ≡ in_force now (answer_of k name kind)
same_answers j k name A now alike later = same_kind Addresses4 addresses4 j k name now alike.moment (alike.v4_answers name) later
same_answers j k name Aaaa now alike later = same_kind Addresses6 addresses6 j k name now alike.moment (alike.v6_answers name) later
same_answers j k name Https now alike later = same_kind Records records j k name now alike.moment (alike.https_answers name) later

pub forgets : (router : Router) (j k : Journal) → StandsFor router j → Alike j k → IsRun k → StandsFor router k
forgets router j k stands alike run = record {
  run = run;
  facts = stands.facts ∙ alike.steps;
  last = stands.last ∙ alike.moment;
  newest = stands.newest ∙ alike.newest;
  tables = record {
    opened = stands.tables.opened ∙ alike.opened;
    pending = stands.tables.pending ∙ alike.pending;
    connections = stands.tables.connections ∙ same_records j k (open_connections j) alike.records ∙ ap (map (record_of k)) alike.connections;
  };
  waiting = stands.waiting ∙ alike.waiting;
  tried = same_tried j k router.tables.requests.waiting (subst (All (SameTries j k)) (sym stands.waiting) alike.tried) stands.tried;
  outstanding = same_out j k router.tables.requests.outstanding alike stands.outstanding;
  readers = same_read router.readers j k alike run stands.readers;
  alternatives = λ o now h. stands.alternatives o now (omega (arith, h, alike.moment)) ∙ alike_live j k o now alike (omega (arith, h, alike.moment));
  none_ended = stands.none_ended;
  failures = λ o r other. stands.failures o r other ∙ ap capped (alike_failures j k o r other alike);
  answers = λ name kind now h. stands.answers name kind now (omega (arith, h, alike.moment)) ∙ same_answers j k name kind now alike (omega (arith, h, alike.moment));
  no_ended_answer = stands.no_ended_answer;
}
