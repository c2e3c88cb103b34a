-- Two journals that differ in how octets were cut into inputs say the same, but for the octets.
use Rattle.std.proofs.Common.{◌≡◌, ℕ, ◌+◌, Bool, false, cond, not, ◌&&◌, ◌||◌, nat_eq, List, [], ◌∷◌, ◌++◌, Option, Some, None, map, filter, find, refl, ap, sym, ◌∙◌}
use Rattle.std.specs.Option.{option_map, option_map_or}
use Rattle.std.specs.List.{list_any}
use Rattle.origin_values.specs.Equality.{host_eq, origin_eq}
use Rattle.origin_values.specs.declared.address.Addr.{Addr}
use Rattle.origin_values.specs.declared.origin.Origin.{Origin}
use Rattle.alias_chain.specs.Held.{body_at}
use Rattle.alias_chain.specs.Walk.{NameOf}
use Rattle.alias_chain.specs.Following.{endpoints_by}
use Rattle.altsvc_grammar.specs.declared.alt.Alt.{Alt as Alternative}
use Rattle.route_events.specs.declared.answer.AnswerBody.{AnswerBody}
use Rattle.altsvc_grammar.specs.declared.alt_key.AltKey.{AltKey}
use Rattle.route_events.specs.declared.fact.Fact.{Fact}
use Rattle.route_events.specs.declared.fact.Fact.TheVariants.{Opened, Failed, Response, Input, Delivered, Network}
use Rattle.route_events.specs.declared.action.Action.TheVariants.{SendOn, Lost, Alternatives}
use Rattle.route_events.specs.declared.route.Route.{Route}
use Rattle.route_events.specs.declared.route.Route.TheVariants.{Rec}
use Rattle.route_events.specs.declared.request.Request.{Request}
use Rattle.route_events.specs.declared.attempt.Attempt.{Attempt}
use Rattle.route_events.specs.declared.connection.Connection.{Connection}
use Rattle.route_events.specs.Journal.{Entry, Happened, Cut, Taken, Journal, of_fact, of_action, newest, readings, with_end, newest_moment}
use Rattle.route_events.specs.Attempts.{attempt_in, ended_in, attempts, ends, has_ended, pending, pending_attempt}
use Rattle.route_events.specs.Requests.{request_in, requests, request_of, standing, waits, waiting, sent_to}
use Rattle.route_events.specs.Connections.{connection_in, connections, closes, is_open, open_connections, open_connection, without, without_any, answered_in, is_one_of, outstanding, send_count}
use Rattle.route_events.specs.Answers.{addresses4, addresses6, records, answer_after, newest_answer}
use Rattle.route_events.specs.OriginSets.{addr_host, gates, lists, came_on, is_initial}
use Rattle.route_events.specs.Addresses.{is_listed_by, name_of, is_address_of}
use Rattle.route_events.specs.Misdirection.{turned_away_in, turns_away, was_opened_by, gives_up, is_misdirected}
use Rattle.route_events.specs.Alternatives.{alternatives_of, newest_age, is_fresh, left_by, live}
use Rattle.route_events.specs.Authority.{gives, is_success, is_upheld, record_of, authorises, is_authoritative}
use Rattle.route_events.specs.Backoff.{is_on, is_attempt_on, failed_at, no_failures, failures_after, failures}
use Rattle.route_events.specs.Routes.{supported, endpoints, is_arrival, was_tried}

-- the second journal is the first, but that inputs have other octets, and that some of the first are not in it: those that
-- came at the moment of what was below them, where no value can be taken any more that is older
pub data Pieced : Journal → Journal → Type 0 where
  Begun : Pieced [] []
  Both : {older other : Journal} (entry : Entry) → Pieced older other → Pieced (entry ∷ older) (entry ∷ other)
  Pieces : {older other : Journal} (moment conn : ℕ) (a b : List ℕ) (handed_in : Bool) → Pieced older other → Pieced (Happened moment (Input conn a) handed_in ∷ older) (Happened moment (Input conn b) handed_in ∷ other)
  Further : {older other : Journal} (moment conn : ℕ) (a : List ℕ) (handed_in : Bool) → newest_moment older ≡ moment → newest_age older ≡ 0 → Pieced older other → Pieced (Happened moment (Input conn a) handed_in ∷ older) other

pub pieced_same : (j : Journal) → Pieced j j
pieced_same [] = Begun
pieced_same (entry ∷ j) = Both entry (pieced_same j)

pub moment_same : {j k : Journal} → Pieced j k → newest_moment j ≡ newest_moment k
moment_same Begun = refl
moment_same (Both (Happened moment fact handed_in) p) = refl
moment_same (Both (Cut moment conn count) p) = refl
moment_same (Both (Taken action) p) = moment_same p
moment_same (Pieces moment conn a b handed_in p) = refl
moment_same (Further moment conn a handed_in at old p) = sym at ∙ moment_same p

age_same : {j k : Journal} → Pieced j k → newest_age j ≡ newest_age k
age_same Begun = refl
age_same (Both (Happened moment fact handed_in) p) = refl
age_same (Both (Cut moment conn count) p) = age_same p
age_same (Both (Taken action) p) = age_same p
age_same (Pieces moment conn a b handed_in p) = refl
age_same (Further moment conn a handed_in at old p) = sym old ∙ age_same p

-- a reading of entries that says nothing of inputs
pub newest_same : {X : Type 0} {j k : Journal} (read : Entry → Option X) → ((m c : ℕ) (b : List ℕ) (h : Bool) → read (Happened m (Input c b) h) ≡ None) → Pieced j k → newest read j ≡ newest read k
newest_same read none Begun = refl
newest_same read none (Both entry p) = ap (option_map_or Some (read entry)) (newest_same read none p)
newest_same read none (Pieces {older} {other} m c a b h p) =
    ap (λ w. option_map_or Some w (newest read older)) (none m c a h) ∙ newest_same read none p ∙ ap (λ w. option_map_or Some w (newest read other)) (sym (none m c b h))
newest_same read none (Further {older} {other} m c a h at old p) = ap (λ w. option_map_or Some w (newest read older)) (none m c a h) ∙ newest_same read none p

pub readings_same :
    {X : Type 0} {j k : Journal} (read : Journal → Entry → Option X) → ((i : Journal) (m c : ℕ) (b : List ℕ) (h : Bool) → read i (Happened m (Input c b) h) ≡ None) →
    ((i l : Journal) → Pieced i l → (entry : Entry) → read i entry ≡ read l entry) → Pieced j k → readings read j ≡ readings read k
readings_same read none same Begun = refl
readings_same read none same (Both {older} {other} entry p) = λ i. with_end (readings_same read none same p i) (same older other p entry i)
readings_same read none same (Pieces {older} {other} m c a b h p) =
    ap (with_end (readings read older)) (none older m c a h) ∙ readings_same read none same p ∙ ap (with_end (readings read other)) (sym (none other m c b h))
readings_same read none same (Further {older} {other} m c a h at old p) = ap (with_end (readings read older)) (none older m c a h) ∙ readings_same read none same p

any_same : {j k : Journal} (test : Entry → Bool) → ((m c : ℕ) (b : List ℕ) (h : Bool) → test (Happened m (Input c b) h) ≡ false) → Pieced j k → list_any test j ≡ list_any test k
any_same test none Begun = refl
any_same test none (Both entry p) = ap (λ w. test entry || w) (any_same test none p)
any_same test none (Pieces {older} {other} m c a b h p) =
    ap (λ w. w || list_any test older) (none m c a h) ∙ any_same test none p ∙ ap (λ w. w || list_any test other) (sym (none m c b h))
any_same test none (Further {older} {other} m c a h at old p) = ap (λ w. w || list_any test older) (none m c a h) ∙ any_same test none p

-- attempts and requests

pub attempts_same : {j k : Journal} → Pieced j k → attempts j ≡ attempts k
attempts_same p = readings_same (λ older. of_action attempt_in) (λ i m c b h. refl) (λ i l q entry. refl) p

ended_same : {j k : Journal} → Pieced j k → (n : ℕ) → has_ended j n ≡ has_ended k n
ended_same p n = any_same (ends n) (λ m c b h. refl) p

pub pending_same : {j k : Journal} → Pieced j k → pending j ≡ pending k
pending_same p = λ i. filter (λ (a : Attempt). not (ended_same p a.number i)) (attempts_same p i)

pub pending_attempt_same : {j k : Journal} → Pieced j k → (n : ℕ) → pending_attempt j n ≡ pending_attempt k n
pending_attempt_same p n = ap (find (λ (a : Attempt). nat_eq a.number n)) (pending_same p)

requests_same : {j k : Journal} → Pieced j k → requests j ≡ requests k
requests_same p = readings_same (λ older. of_fact request_in) (λ i m c b h. refl) (λ i l q entry. refl) p

pub request_of_same : {j k : Journal} → Pieced j k → (n : ℕ) → request_of j n ≡ request_of k n
request_of_same p n = ap (find (λ (q : Request). nat_eq q.number n)) (requests_same p)

pub standing_same : {j k : Journal} → Pieced j k → (n : ℕ) → standing j n ≡ standing k n
standing_same p n = newest_same _ (λ m c b h. refl) p

pub waiting_same : {j k : Journal} → Pieced j k → waiting j ≡ waiting k
waiting_same p = λ i. filter (λ (q : Request). waits (standing_same p q.number i)) (requests_same p i)

pub sent_to_same : {j k : Journal} → Pieced j k → (n : ℕ) → sent_to j n ≡ sent_to k n
sent_to_same p n = newest_same _ (λ m c b h. refl) p

-- connections

connection_in_same : {j k : Journal} → Pieced j k → (f : Fact) → connection_in j f ≡ connection_in k f
connection_in_same p (Opened m proto addr port names) =
    ap (option_map (λ (a : Attempt). record { number = m; origin = a.origin; route = a.route; proto = proto; addr = addr; port = port; names = names })) (pending_attempt_same p m)
connection_in_same p _ = refl

connection_same : {j k : Journal} → Pieced j k → (entry : Entry) → of_fact (connection_in j) entry ≡ of_fact (connection_in k) entry
connection_same p (Happened m f h) = connection_in_same p f
connection_same p (Cut m c count) = refl
connection_same p (Taken a) = refl

pub connections_same : {j k : Journal} → Pieced j k → connections j ≡ connections k
connections_same p = readings_same (λ older. of_fact (connection_in older)) (λ i m c b h. refl) (λ i l q entry. connection_same q entry) p

pub open_same : {j k : Journal} → Pieced j k → (c : Connection) → is_open j c ≡ is_open k c
open_same p c = ap not (any_same (closes c.number) (λ m c b h. refl) p)

pub open_connections_same : {j k : Journal} → Pieced j k → open_connections j ≡ open_connections k
open_connections_same p = λ i. filter (λ c. open_same p c i) (connections_same p i)

pub open_connection_same : {j k : Journal} → Pieced j k → (n : ℕ) → open_connection j n ≡ open_connection k n
open_connection_same p n = ap (find (λ (c : Connection). nat_eq c.number n)) (open_connections_same p)

pub outstanding_same : {j k : Journal} → Pieced j k → (n : ℕ) → outstanding j n ≡ outstanding k n
outstanding_same Begun n = refl
outstanding_same (Both (Happened m f h) p) n = ap (without_any (answered_in f)) (outstanding_same p n)
outstanding_same (Both (Cut m c count) p) n = outstanding_same p n
outstanding_same (Both (Taken (SendOn q to stream used)) p) n = ap (λ (w : List ℕ). cond (nat_eq to n) (w ++ q ∷ []) w) (outstanding_same p n)
outstanding_same (Both (Taken (Lost q)) p) n = ap (without q) (outstanding_same p n)
outstanding_same (Both (Taken _) p) n = outstanding_same p n
outstanding_same (Pieces m c a b h p) n = outstanding_same p n
outstanding_same (Further m c a h at old p) n = outstanding_same p n

pub sends_same : {j k : Journal} → Pieced j k → (n : ℕ) → send_count j n ≡ send_count k n
sends_same Begun n = refl
sends_same (Both (Happened m f h) p) n = sends_same p n
sends_same (Both (Cut m c count) p) n = sends_same p n
sends_same (Both (Taken (SendOn q to stream used)) p) n = ap (λ (w : ℕ). cond (nat_eq to n) (w + 1) w) (sends_same p n)
sends_same (Both (Taken _) p) n = sends_same p n
sends_same (Pieces m c a b h p) n = sends_same p n
sends_same (Further m c a h at old p) n = sends_same p n

-- misdirection, origin sets and alternatives

turns_away_same : {j k : Journal} → Pieced j k → (n : ℕ) (o : Origin) (f : Fact) → turns_away j n o f ≡ turns_away k n o f
turns_away_same p n o f =
    λ i. option_map_or (λ q. is_one_of q (outstanding_same p n i) && option_map_or (λ (r : Request). origin_eq r.origin o) (request_of_same p q i) false) (turned_away_in f) false

gives_up_same : {j k : Journal} → Pieced j k → (o : Origin) (f : Fact) (key : AltKey) → gives_up j o f key ≡ gives_up k o f key
gives_up_same p o f key = λ i. list_any (λ (c : Connection). was_opened_by o key c && turns_away_same p c.number o f i) (open_connections_same p i)

misdirected_same : {j k : Journal} → Pieced j k → (c : Connection) (o : Origin) → is_misdirected j c o ≡ is_misdirected k c o
misdirected_same Begun c o = refl
misdirected_same (Both {older} {other} (Happened m f h) p) c o = by_fact f (misdirected_same p c o)
  where
    by_fact : (f : Fact) → is_misdirected older c o ≡ is_misdirected other c o → is_misdirected (Happened m f h ∷ older) c o ≡ is_misdirected (Happened m f h ∷ other) c o
    by_fact (Opened n proto addr port names) e = ap (λ b. not (nat_eq n c.number) && b) e
    by_fact (Delivered n head payload) e = ap (λ b. not (lists c o (Delivered n head payload)) && b) e
    by_fact f e = λ i. turns_away_same p c.number o f i || e i
misdirected_same (Both (Cut m n count) p) c o = misdirected_same p c o
misdirected_same (Both (Taken a) p) c o = misdirected_same p c o
misdirected_same (Pieces m n a b h p) c o = misdirected_same p c o
misdirected_same (Further m n a h at old p) c o = misdirected_same p c o

came_same : {j k : Journal} (test : Fact → Bool) → ((c : ℕ) (b : List ℕ) → test (Input c b) ≡ false) → Pieced j k → (c : Connection) → came_on test j c ≡ came_on test k c
came_same test none Begun c = refl
came_same test none (Both {older} {other} (Happened m f h) p) c = by_fact f (came_same test none p c)
  where
    by_fact : (f : Fact) → came_on test older c ≡ came_on test other c → came_on test (Happened m f h ∷ older) c ≡ came_on test (Happened m f h ∷ other) c
    by_fact (Opened n proto addr port names) e = ap (λ b. not (nat_eq n c.number) && b) e
    by_fact f e = ap (λ b. test f || b) e
came_same test none (Both (Cut m n count) p) c = came_same test none p c
came_same test none (Both (Taken a) p) c = came_same test none p c
came_same test none (Pieces {older} {other} m n a b h p) c =
    ap (λ w. w || came_on test older c) (none n a) ∙ came_same test none p c ∙ ap (λ w. w || came_on test other c) (sym (none n b))
came_same test none (Further {older} {other} m n a h at old p) c = ap (λ w. w || came_on test older c) (none n a) ∙ came_same test none p c

pub live_same : {j k : Journal} → Pieced j k → (o : Origin) (now : ℕ) → live j o now ≡ live k o now
live_same Begun o now = refl
live_same (Both {older} {other} (Happened m f h) p) o now = by_fact f (live_same p o now)
  where
    by_fact : (f : Fact) → live older o now ≡ live other o now → left_by older o f (live older o now) ≡ left_by other o f (live other o now)
    by_fact Network e = ap (filter (λ (a : Alternative). a.persist)) e
    by_fact (Response q status age altsvc) e = λ i. filter (λ (a : Alternative). not (gives_up_same p o (Response q status age altsvc) a.key i)) (e i)
    by_fact _ e = e
live_same (Both (Cut m c count) p) o now = live_same p o now
live_same (Both (Taken (Alternatives other value)) p) o now =
    λ i. cond (origin_eq other o) (filter (is_fresh (moment_same p i) (age_same p i) now) (alternatives_of value)) (live_same p o now i)
live_same (Both (Taken _) p) o now = live_same p o now
live_same (Pieces m c a b h p) o now = live_same p o now
live_same (Further m c a h at old p) o now = live_same p o now

upheld_same : {j k : Journal} → Pieced j k → (c : Connection) → is_upheld j c ≡ is_upheld k c
upheld_same Begun c = refl
upheld_same (Both {older} {other} (Happened m f h) p) c = by_fact f (upheld_same p c)
  where
    by_fact : (f : Fact) → is_upheld older c ≡ is_upheld other c → is_upheld (Happened m f h ∷ older) c ≡ is_upheld (Happened m f h ∷ other) c
    by_fact (Opened n proto addr port names) e = λ i. cond (nat_eq n c.number) (gives (live_same p c.origin m i) c.route) (e i)
    by_fact _ e = e
upheld_same (Both (Cut m n count) p) c = upheld_same p c
upheld_same (Both (Taken (Alternatives o value)) p) c = ap (λ b. (not (origin_eq o c.origin) || gives (alternatives_of value) c.route) && b) (upheld_same p c)
upheld_same (Both (Taken _) p) c = upheld_same p c
upheld_same (Pieces m n a b h p) c = upheld_same p c
upheld_same (Further m n a h at old p) c = upheld_same p c

pub record_same : {j k : Journal} → Pieced j k → (c : Connection) → record_of j c ≡ record_of k c
record_same p c = λ i. record {
  made = c;
  bound = is_success c && upheld_same p c i;
  gated = came_same (gates c) (λ n b. refl) p c i;
  holds = λ o. is_initial c o || came_same (lists c o) (λ n b. refl) p c i;
  misdirected = λ o. misdirected_same p c o i;
  outstanding = outstanding_same p c.number i;
  sends = sends_same p c.number i;
}

-- answers, addresses and endpoints

pub newest_answer_same : {B : Type 0} {j k : Journal} (brings : AnswerBody → Option B) → Pieced j k → (name : NameOf) → newest_answer brings j name ≡ newest_answer brings k name
newest_answer_same brings Begun name = refl
newest_answer_same brings (Both (Happened m f h) p) name = ap (answer_after brings name m f) (newest_answer_same brings p name)
newest_answer_same brings (Both (Cut m c count) p) name = newest_answer_same brings p name
newest_answer_same brings (Both (Taken a) p) name = newest_answer_same brings p name
newest_answer_same brings (Pieces m c a b h p) name = newest_answer_same brings p name
newest_answer_same brings (Further m c a h at old p) name = newest_answer_same brings p name

address_same : {j k : Journal} → Pieced j k → (o : Origin) (now : ℕ) (addr : Addr) → is_address_of j o now addr ≡ is_address_of k o now addr
address_same p o now addr = λ i.
    host_eq (addr_host addr) o.host
    || option_map_or (λ name. is_listed_by addr (body_at now (newest_answer_same addresses4 p name i)) (body_at now (newest_answer_same addresses6 p name i))) (name_of o.host) false

pub endpoints_same : {j k : Journal} → Pieced j k → (o : Origin) (now : ℕ) → endpoints j o now ≡ endpoints k o now
endpoints_same p o now = λ i. map Rec (endpoints_by (λ name. body_at now (newest_answer_same records p name i)) supported o)

pub authority_same : {j k : Journal} → Pieced j k → (c : Connection) (o : Origin) (now : ℕ) → is_authoritative j c o now ≡ is_authoritative k c o now
authority_same p c o now = λ i. open_same p c i && authorises (record_same p c i) o (record { address = address_same p o now c.addr i })

-- failures and routes

attempt_on_same : {j k : Journal} → Pieced j k → (o : Origin) (r : Route) (n : ℕ) → is_attempt_on j o r n ≡ is_attempt_on k o r n
attempt_on_same p o r n = ap (λ w. option_map_or (is_on o r) w false) (pending_attempt_same p n)

pub failures_same : {j k : Journal} → Pieced j k → (o : Origin) (r : Route) → failures j o r ≡ failures k o r
failures_same Begun o r = refl
failures_same (Both {older} {other} (Happened m f h) p) o r = by_fact f (failures_same p o r)
  where
    by_fact : (f : Fact) → failures older o r ≡ failures other o r → failures_after older o r m f (failures older o r) ≡ failures_after other o r m f (failures other o r)
    by_fact (Opened n proto addr port names) e =
        λ i. cond (attempt_on_same p o r n i) (cond (option_map_or is_success (connection_in_same p (Opened n proto addr port names) i) false) no_failures (failed_at m (e i))) (e i)
    by_fact (Failed n) e = λ i. cond (attempt_on_same p o r n i) (failed_at m (e i)) (e i)
    by_fact Network e = refl
    by_fact _ e = e
failures_same (Both (Cut m c count) p) o r = failures_same p o r
failures_same (Both (Taken a) p) o r = failures_same p o r
failures_same (Pieces m c a b h p) o r = failures_same p o r
failures_same (Further m c a h at old p) o r = failures_same p o r

pub tried_same : {j k : Journal} → Pieced j k → (q : Request) (r : Route) → was_tried j q r ≡ was_tried k q r
tried_same Begun q r = refl
tried_same (Both entry p) q r =
    λ i. cond (is_arrival q.number entry) false (option_map_or (λ n. attempt_on_same p q.origin r n i) (of_fact ended_in entry) false || tried_same p q r i)
tried_same (Pieces m c a b h p) q r = tried_same p q r
tried_same (Further m c a h at old p) q r = tried_same p q r
