-- A response, for what a router keeps, is the response for the journal.
use Rattle.std.proofs.Common.{◌≡◌, ℕ, Bool, true, false, cond, not, ◌&&◌, ◌||◌, nat_eq, List, [], ◌∷◌, ◌++◌, map, Option, Some, None, is_some, Result, Ok, Err, refl, ap, sym, ◌∙◌, true≢false, subst}
use Rattle.std.specs.Option.{option_map_or}
use Rattle.std.specs.List.{list_any}
use Rattle.std.proofs.lemmas.Bool.{or_right}
use Rattle.std.proofs.lemmas.List.Folds.{list_any-append}
use Rattle.alt_base.specs.declared.refusal.At.{At}
use Rattle.altsvc_grammar.specs.ValueReading.{read_value}
use Rattle.altsvc_grammar.specs.declared.alt_svc.AltSvc.{AltSvc}
use Rattle.altsvc_grammar.specs.declared.refusal.AltRefusal.{AltRefusal}
use Rattle.origin_values.specs.Equality.{origin_eq}
use Rattle.origin_values.specs.declared.address.Addr.{Addr}
use Rattle.origin_values.specs.declared.origin.Origin.{Origin}
use Rattle.origin_values.proofs.Equal.{true_origin}
use Rattle.route_events.specs.declared.fact.Fact.TheVariants.{Response}
use Rattle.route_events.specs.declared.action.Action.{Action}
use Rattle.route_events.specs.declared.action.Action.TheVariants.{Retry, Alternatives, Field}
use Rattle.route_events.specs.declared.request.Request.{Request}
use Rattle.route_events.specs.Journal.{Happened, Taken, Journal}
use Rattle.route_events.specs.Requests.{Standing, Waits, OutOn, Over, requests, request_of, standing, waits, is_out, waiting}
use Rattle.route_events.specs.declared.connection.Connection.{Connection}
use Rattle.route_events.specs.Connections.{connections, is_open, open_connections, is_one_of, outstanding, send_count, without}
use Rattle.route_events.specs.Misdirection.{asks_for, is_misdirected}
use Rattle.route_events.specs.Alternatives.{alternatives_of}
use Rattle.route_events.specs.Authority.{is_https, is_success, gives, is_upheld, is_gated, record_of, is_authoritative}
use Rattle.route_events.specs.Advertisements.{value_of_reading, value_taken, advertisement, field_effects, retries, answer_effects}
use Rattle.route_events.specs.Advertisements as journal
use Rattle.route_events.specs.Step.{with_actions}
use Rattle.route_events.proofs.Lists.{in_filter, find_in}
use Rattle.route_events.proofs.Sound.{Sound}
use Rattle.route_events.specs.Records.{ConnectionRecord}
use Rattle.request_dispatch.specs.declared.outstanding.Outstanding.{Outstanding}
use Rattle.request_dispatch.specs.declared.step_state.StepState.{StepState}
use Rattle.request_dispatch.specs.declared.tables.Tables.{Tables}
use Rattle.request_dispatch.specs.declared.waiting.Waiting.{Waiting}
use Rattle.request_dispatch.specs.RequestTable.{RequestTable, request_among, requests_of, waits_again, sent_back, lost}
use Rattle.conn_states.specs.Changes.{with_answered, unbound}
use Rattle.conn_states.specs.Origins.{is_among, joined}
use Rattle.conn_states.specs.Record.{Record}
use Rattle.conn_states.specs.Said.{said, in_set}
use Rattle.conn_states.proofs.Joined.{joined_one}
use Rattle.request_dispatch.specs.ConnectionTable.{misdirected_by, rebound}
use Rattle.request_dispatch.specs.Carriers.{is_answered_by_authority}
use Rattle.request_dispatch.proofs.Listing.{any_map, any_same_in, map_twice}
use Rattle.router_core.specs.Holds.{Hold, AreTried, IsOut, AreOut}
use Rattle.router_core.specs.Effects.{field_done, answer_done, misdirected_for, answered_so, answered}
use Rattle.router_core.proofs.Applying.{changed, tried_with}
use Rattle.router_core.proofs.Choosing.{carrier_at}
use Rattle.router_core.proofs.Knowing.{known_at}
use Rattle.router_core.proofs.SettlingSo.{Keeps}
use Rattle.router_core.proofs.LeftOut.{out_moved, known_number}
use Rattle.router_core.proofs.Effects.{waiting_over}
use Rattle.router_core.proofs.Returning.{AreRising, placed_request, requests_placed, tried_placed, waiting_back}

-- what a response writes: nothing, a value that is taken, a field that isn't, or that the request is tried again, and then a
-- field that isn't taken
abbrev pub IsAnswer : List Action → Type 0
IsAnswer [] = Unit {0}
IsAnswer (Alternatives o value ∷ []) = Unit {0}
IsAnswer (Field q reason place ∷ []) = Unit {0}
IsAnswer (Retry q ∷ []) = Unit {0}
IsAnswer (Retry q ∷ Field r reason place ∷ []) = Unit {0}
IsAnswer _ = ⊥

value_is : (q : Request) (bytes : List ℕ) → IsAnswer (value_taken q bytes ∷ [])
unfolding value_taken
value_is q bytes = by_reading (read_value bytes)
  where
    by_reading : (w : Result AltSvc (At AltRefusal)) → IsAnswer (value_of_reading q w ∷ [])
    by_reading (Ok value) = tt
    by_reading (Err at) = tt

advertised_is : (j : Journal) (now : ℕ) (q : Request) (status : ℕ) (bytes : List ℕ) → IsAnswer (advertisement j now q status bytes ∷ [])
advertised_is j now q status bytes = by_tests (nat_eq status 421) (not (is_https q.origin.scheme)) (not (journal.is_answered_by_authority j now q))
  where
    by_tests : (a b c : Bool) → IsAnswer (cond a (Field q.number 11 0) (cond b (Field q.number 12 0) (cond c (Field q.number 13 0) (value_taken q bytes))) ∷ [])
    by_tests true b c = tt
    by_tests false true c = tt
    by_tests false false true = tt
    by_tests false false false = value_is q bytes

pub answer_is : (j : Journal) (now request status : ℕ) (altsvc : Option (List ℕ)) → IsAnswer (answer_effects j now request status altsvc)
answer_is j now request status altsvc = by_request (request_of j request) altsvc (nat_eq status 421) refl
  where
    by_request : (v : Option Request) (altsvc : Option (List ℕ)) (b : Bool) → nat_eq status 421 ≡ b → IsAnswer (cond b (Retry request ∷ []) [] ++ option_map_or (field_effects j now status altsvc) v [])
    by_request None altsvc true is = tt
    by_request None altsvc false is = tt
    by_request (Some q) None true is = tt
    by_request (Some q) None false is = tt
    by_request (Some q) (Some bytes) true is = rw is tt
    by_request (Some q) (Some bytes) false is = advertised_is j now q status bytes

-- the same is written

authority_is : (t : Tables) (j : Journal) (now : ℕ) (q : Request) → Hold t j → is_answered_by_authority (known_at j now) q.number q.origin t.connections ≡ journal.is_answered_by_authority j now q
authority_is t j now q hold =
    sym (any_map carries said t.connections)
    ∙ ap (list_any carries) hold.connections
    ∙ any_map carries (record_of j) (open_connections j)
    ∙ any_same_in (λ c. carries (record_of j c)) (λ c. is_one_of q.number (outstanding j c.number) && is_authoritative j c q.origin now) (open_connections j)
    (λ c found. ap (λ b. is_one_of q.number (outstanding j c.number) && (b && carrier_at (known_at j now) q.origin (record_of j c))) (sym (in_filter (is_open j) c (connections j) found).1))
  where
    carries : ConnectionRecord → Bool
    carries r = is_one_of q.number r.outstanding && carrier_at (known_at j now) q.origin r

field_is : (t : Tables) (j : Journal) (now status : ℕ) (altsvc : Option (List ℕ)) (x : Outstanding) → Hold t j → field_done (known_at j now) t.connections status altsvc x ≡ field_effects j now status altsvc x.request
field_is t j now status None x hold = refl
field_is t j now status (Some bytes) x hold =
    ap (λ b. cond (nat_eq status 421) (Field x.request.number 11 0) (cond (not (is_https x.request.origin.scheme)) (Field x.request.number 12 0) (cond (not b) (Field x.request.number 13 0) (value_taken x.request bytes))) ∷ []) (authority_is t j now x.request hold)

written_is : (t : Tables) (j : Journal) (now request status : ℕ) (altsvc : Option (List ℕ)) (x : Outstanding) → Hold t j → request_of j request ≡ Some x.request →
    answer_done (known_at j now) t.connections request status altsvc (Some x) ≡ answer_effects j now request status altsvc
written_is t j now request status altsvc x hold asked =
    ap (λ fields. retries request status ++ fields) (field_is t j now status altsvc x hold ∙ ap (λ v. option_map_or (field_effects j now status altsvc) v []) (sym asked))

-- the tables of attempts and connections

abbrev without_record : ℕ → ConnectionRecord → ConnectionRecord
without_record q r = record { made = r.made; bound = r.bound; gated = r.gated; holds = r.holds; misdirected = r.misdirected; outstanding = without q r.outstanding; sends = r.sends }

abbrev rebound_record : Origin → AltSvc → ConnectionRecord → ConnectionRecord
rebound_record o value r =
    record { made = r.made; bound = (not (origin_eq o r.made.origin) || gives (alternatives_of value) r.made.route) && r.bound; gated = r.gated; holds = r.holds; misdirected = r.misdirected; outstanding = r.outstanding; sends = r.sends }

-- a 421 for a request, as a change of a record
abbrev misdirected_record : ℕ → Origin → ConnectionRecord → ConnectionRecord
misdirected_record request o r =
    cond (is_one_of request r.outstanding) (record { made = r.made; bound = r.bound; gated = r.gated; holds = r.holds; misdirected = λ p. r.misdirected p || origin_eq o p; outstanding = r.outstanding; sends = r.sends }) r

-- a list of origins holds one more
pub among_more : (o : Origin) (origins : List Origin) (p : Origin) → is_among (joined origins (o ∷ [])) p ≡ (is_among origins p || origin_eq o p)
among_more o origins p = ap (λ ks. is_among ks p) (sym (joined_one origins o (is_among origins o) refl)) ∙ by_test (is_among origins o) refl
  where
    there : (b : Bool) → origin_eq o p ≡ b → is_among origins o ≡ true → is_among origins p ≡ (is_among origins p || b)
    there true same e = let is = ap (is_among origins) (sym (true_origin o p same)) ∙ e in is ∙ sym (or_right (is_among origins p) true refl)
    there false other e = nothing (is_among origins p)
      where
        nothing : (b : Bool) → b ≡ (b || false)
        nothing true = refl
        nothing false = refl

    by_test : (b : Bool) → is_among origins o ≡ b → is_among (cond b origins (origins ++ o ∷ [])) p ≡ (is_among origins p || origin_eq o p)
    by_test true e = there (origin_eq o p) refl e
    by_test false e = list_any-append (λ q. origin_eq q p) origins (o ∷ []) ∙ ap (λ b. is_among origins p || b) (alone (origin_eq o p))
      where
        alone : (b : Bool) → (b || false) ≡ b
        alone true = refl
        alone false = refl

misdirected_says : (request : ℕ) (o : Origin) (c : Record) → said (misdirected_by request o c) ≡ misdirected_record request o (said c)
misdirected_says request o c = by_test (is_one_of request c.outstanding) refl
  where
    by_test : (b : Bool) → is_one_of request c.outstanding ≡ b → said (misdirected_by request o c) ≡ misdirected_record request o (said c)
    by_test true e =
        rw e (λ i. record { made = (said c).made; bound = c.bound; gated = is_some c.listed; holds = in_set c; misdirected = λ p. among_more o c.misdirected p i; outstanding = c.outstanding; sends = c.sends })
    by_test false e = rw e refl

-- whether a response turns a request for an origin away on a connection, by whether it is a 421
abbrev turned_by : Bool → Journal → ℕ → ℕ → Origin → Bool
turned_by back j conn request p = option_map_or (λ number. is_one_of number (outstanding j conn) && asks_for j p number) (cond back (Some request) None) false

hold_answered : (t : Tables) (j : Journal) (now request status age : ℕ) (altsvc : Option (List ℕ)) (requests : RequestTable) (x : Outstanding) → request_of j request ≡ Some x.request → Hold t j →
    Hold (record { attempts = t.attempts; requests = requests; connections = map (with_answered request) (misdirected_for request status (Some x) t.connections) }) (Happened now (Response request status age altsvc) true ∷ j)
hold_answered t j now request status age altsvc requests x asked hold = record {
  opened = hold.opened;
  pending = hold.pending;
  connections = by_back (nat_eq status 421) refl;
}
  where
    k : Journal
    k = Happened now (Response request status age altsvc) true ∷ j

    o : Origin
    o = x.request.origin

    built : (Origin → Bool) → Connection → ConnectionRecord
    built turned c = record { made = c; bound = is_success c && is_upheld j c; gated = is_gated j c; holds = (record_of j c).holds; misdirected = turned; outstanding = without request (outstanding j c.number); sends = send_count j c.number }

    kept_now : nat_eq status 421 ≡ false → (c : Connection) → without_record request (record_of j c) ≡ record_of k c
    kept_now is c = ap (λ b. built (λ p. turned_by b j c.number request p || is_misdirected j c p) c) (sym is)

    by_one : (c : Connection) (p : Origin) (one : Bool) → cond one (is_misdirected j c p || origin_eq o p) (is_misdirected j c p) ≡ ((one && origin_eq o p) || is_misdirected j c p)
    by_one c p true = either_order (is_misdirected j c p) (origin_eq o p)
      where
        either_order : (a b : Bool) → (a || b) ≡ (b || a)
        either_order true true = refl
        either_order true false = refl
        either_order false true = refl
        either_order false false = refl
    by_one c p false = refl

    so : (c : Connection) → without_record request (misdirected_record request o (record_of j c)) ≡ built (λ p. cond (is_one_of request (outstanding j c.number)) (is_misdirected j c p || origin_eq o p) (is_misdirected j c p)) c
    so c = by_test (is_one_of request (outstanding j c.number)) refl
      where
        by_test : (one : Bool) → is_one_of request (outstanding j c.number) ≡ one → without_record request (misdirected_record request o (record_of j c)) ≡ built (λ p. cond (is_one_of request (outstanding j c.number)) (is_misdirected j c p || origin_eq o p) (is_misdirected j c p)) c
        by_test true e = rw e refl
        by_test false e = rw e refl

    turned_now : nat_eq status 421 ≡ true → (c : Connection) → without_record request (misdirected_record request o (record_of j c)) ≡ record_of k c
    turned_now is c =
        so c
        ∙ (λ i. built (λ p. by_one c p (is_one_of request (outstanding j c.number)) i) c)
        ∙ (λ i. built (λ p. (is_one_of request (outstanding j c.number) && option_map_or (λ (q : Request). origin_eq q.origin p) (sym asked i) false) || is_misdirected j c p) c)
        ∙ ap (λ b. built (λ p. turned_by b j c.number request p || is_misdirected j c p) c) (sym is)

    by_back : (b : Bool) → nat_eq status 421 ≡ b → map said (map (with_answered request) (cond b (map (misdirected_by request o) t.connections) t.connections)) ≡ map (record_of k) (open_connections j)
    by_back false is = changed (with_answered request) (without_record request) t.connections j k (open_connections j) (λ c found. refl) (λ c found. kept_now is c) hold.connections
    by_back true is =
        ap (map said) (map_twice (with_answered request) (misdirected_by request o) t.connections)
        ∙ changed (λ c. with_answered request (misdirected_by request o c)) (λ r. without_record request (misdirected_record request o r)) t.connections j k (open_connections j)
        (λ c found. ap (without_record request) (misdirected_says request o c)) (λ c found. turned_now is c) hold.connections

and_swap : (a b c : Bool) → (a && (b && c)) ≡ (b && (a && c))
and_swap true b c = refl
and_swap false true c = refl
and_swap false false c = refl

rebound_says : (o : Origin) (value : AltSvc) (c : Record) → said (rebound o (alternatives_of value) c) ≡ rebound_record o value (said c)
rebound_says o value c = by_tests (origin_eq o c.made.origin) (gives (alternatives_of value) c.made.route)
  where
    by_tests : (a b : Bool) → said (cond (a && not b) (unbound c) c) ≡ record { made = (said c).made; bound = (not a || b) && c.bound; gated = is_some c.listed; holds = in_set c; misdirected = is_among c.misdirected; outstanding = c.outstanding; sends = c.sends }
    by_tests true true = refl
    by_tests true false = refl
    by_tests false b = refl

pub hold_value : (t : Tables) (k : Journal) (o : Origin) (value : AltSvc) → Hold t k →
    Hold (record { attempts = t.attempts; requests = t.requests; connections = map (rebound o (alternatives_of value)) t.connections }) (Taken (Alternatives o value) ∷ k)
hold_value t k o value hold = record {
  opened = hold.opened;
  pending = hold.pending;
  connections = changed (rebound o (alternatives_of value)) (rebound_record o value) t.connections k (Taken (Alternatives o value) ∷ k) (open_connections k) (λ c found. rebound_says o value c)
      (λ x found. λ i. record { made = x; bound = and_swap (not (origin_eq o x.origin) || gives (alternatives_of value) x.route) (is_success x) (is_upheld k x) i; gated = is_gated k x; holds = (record_of k x).holds; misdirected = is_misdirected k x; outstanding = outstanding k x.number; sends = send_count k x.number })
      hold.connections;
}

-- the table of requests

tried_response : (j : Journal) (now request status age : ℕ) (altsvc : Option (List ℕ)) (ws : List Waiting) → AreTried j ws → AreTried (Happened now (Response request status age altsvc) true ∷ j) ws
tried_response j now request status age altsvc [] h = tt
tried_response j now request status age altsvc (w ∷ ws) h = (h.0, tried_response j now request status age altsvc ws h.1)

out_waits : (v : Option Standing) → is_out v ≡ true → waits v ≡ false
out_waits None h = refl
out_waits (Some (OutOn conn)) h = refl
out_waits (Some _) h = absurd (true≢false (sym h))

-- a table of requests holds what a journal says
pub record HoldsRequests (t : RequestTable) (k : Journal) : Type 0 where
  pub waiting : requests_of t.waiting ≡ waiting k
  pub tried : AreTried k t.waiting
  pub outstanding : AreOut k t.outstanding

-- the request ends, or waits again
requests_answered : (t : RequestTable) (j : Journal) (now request status age : ℕ) (altsvc : Option (List ℕ)) (back : Bool) → nat_eq status 421 ≡ back → Sound j → AreRising (requests j) → is_out (standing j request) ≡ true →
    requests_of t.waiting ≡ waiting j → AreTried j t.waiting → AreOut j t.outstanding → HoldsRequests (cond back (sent_back request t) (lost (request ∷ []) t)) (Happened now (Response request status age altsvc) true ∷ j)
requests_answered t j now request status age altsvc back is sound rise out asked tried outs = by_back back moved_by
  where
    k : Journal
    k = Happened now (Response request status age altsvc) true ∷ j

    moved_by : (n : ℕ) → standing k n ≡ option_map_or Some (cond (nat_eq request n) (Some (cond back Waits Over)) None) (standing j n)
    moved_by n = ap (λ b. option_map_or Some (cond (nat_eq request n) (Some (cond b Waits Over)) None) (standing j n)) is

    tried_now : AreTried k t.waiting
    tried_now = tried_response j now request status age altsvc t.waiting tried

    same : (n : ℕ) (x : Outstanding) → IsOut j n x → IsOut k n x
    same n x was = record { request = was.request; sent = was.sent; tried = was.tried }

    again : (v : Option Outstanding) → request_among t.outstanding request ≡ v → is_some v ≡ true → ((n : ℕ) → standing k n ≡ option_map_or Some (cond (nat_eq request n) (Some Waits) None) (standing j n)) →
        (requests_of (waits_again v t.waiting) ≡ waiting k) × AreTried k (waits_again v t.waiting)
    again None e some moved = absurd (true≢false (sym some))
    again (Some x) e some moved =
        let was = outs.known request x e in
        let numbered = (known_number j request x sound was).0 in
        let there = (find_in (λ (r : Request). nat_eq r.number request) (requests j) x.request was.request).0 in (
          requests_placed (record { request = x.request; tried = x.tried }) t.waiting ∙ ap (placed_of x) asked
              ∙ sym (waiting_back j k x.request rise there refl (λ n. moved n ∙ ap (λ m. option_map_or Some (cond (nat_eq m n) (Some Waits) None) (standing j n)) (sym numbered)) (ap (λ m. waits (standing j m)) numbered ∙ out_waits (standing j request) out)),
          tried_placed k (record { request = x.request; tried = x.tried }) t.waiting was.tried tried_now,
        )
      where
        placed_of : Outstanding → List Request → List Request
        placed_of x qs = placed_request x.request qs

    by_back : (b : Bool) → ((n : ℕ) → standing k n ≡ option_map_or Some (cond (nat_eq request n) (Some (cond b Waits Over)) None) (standing j n)) → HoldsRequests (cond b (sent_back request t) (lost (request ∷ []) t)) k
    by_back false moved = record {
      waiting = asked ∙ sym (waiting_over j k request refl moved (out_waits (standing j request) out));
      tried = tried_now;
      outstanding = out_moved j k request Over t.outstanding refl same moved outs;
    }
    by_back true moved =
        let waits_now = again (request_among t.outstanding request) refl (outs.out request ∙ out) moved in
        record { waiting = waits_now.0; tried = waits_now.1; outstanding = out_moved j k request Waits t.outstanding refl same moved outs }

-- the whole of it
answered_keeps : (s : StepState) (j : Journal) (now request status age : ℕ) (altsvc : Option (List ℕ)) (x : Outstanding) (as' : List Action) → request_of j request ≡ Some x.request → s.actions ≡ [] → IsAnswer as' → Sound j → AreRising (requests j) → is_out (standing j request) ≡ true →
    Hold s.tables j → requests_of s.tables.requests.waiting ≡ waiting j → AreTried j s.tables.requests.waiting → AreOut j s.tables.requests.outstanding →
    Keeps (answered_so s request status (Some x) as') (with_actions (Happened now (Response request status age altsvc) true ∷ j) as') (waiting (with_actions (Happened now (Response request status age altsvc) true ∷ j) as'))
answered_keeps s j now request status age altsvc x as' known none answer sound rise out hold asked tried outs = by_actions as' answer
  where
    k : Journal
    k = Happened now (Response request status age altsvc) true ∷ j

    after : RequestTable
    after = cond (nat_eq status 421) (sent_back request s.tables.requests) (lost (request ∷ []) s.tables.requests)

    held : Hold (record { attempts = s.tables.attempts; requests = after; connections = map (with_answered request) (misdirected_for request status (Some x) s.tables.connections) }) k
    held = hold_answered s.tables j now request status age altsvc after x known hold

    still : HoldsRequests after k
    still = requests_answered s.tables.requests j now request status age altsvc (nat_eq status 421) refl sound rise out asked tried outs

    out_taken : (a : Action) → IsAnswer (a ∷ []) → AreOut (Taken a ∷ k) after.outstanding
    out_taken (Alternatives o value) h = record { out = still.outstanding.out; known = λ n x e. let was = still.outstanding.known n x e in record { request = was.request; sent = was.sent; tried = was.tried } }
    out_taken (Field q reason place) h = record { out = still.outstanding.out; known = λ n x e. let was = still.outstanding.known n x e in record { request = was.request; sent = was.sent; tried = was.tried } }
    out_taken (Retry q) h = record { out = still.outstanding.out; known = λ n x e. let was = still.outstanding.known n x e in record { request = was.request; sent = was.sent; tried = was.tried } }
    out_taken _ h = absurd h

    by_actions : (as' : List Action) → IsAnswer as' → Keeps (answered_so s request status (Some x) as') (with_actions k as') (waiting (with_actions k as'))
    by_actions [] h = record { tables = held; waiting = still.waiting; tried = still.tried; outstanding = still.outstanding; written = ap (λ bs. bs ++ []) none }
    by_actions (Alternatives o value ∷ []) h = record {
      tables = hold_value _ k o value held;
      waiting = still.waiting;
      tried = tried_with k (Alternatives o value ∷ []) after.waiting still.tried;
      outstanding = out_taken (Alternatives o value) h;
      written = ap (λ bs. bs ++ Alternatives o value ∷ []) none;
    }
    by_actions (Field q reason place ∷ []) h = record {
      tables = record { opened = held.opened; pending = held.pending; connections = held.connections };
      waiting = still.waiting;
      tried = tried_with k (Field q reason place ∷ []) after.waiting still.tried;
      outstanding = out_taken (Field q reason place) h;
      written = ap (λ bs. bs ++ Field q reason place ∷ []) none;
    }
    by_actions (Retry q ∷ []) h = record {
      tables = record { opened = held.opened; pending = held.pending; connections = held.connections };
      waiting = still.waiting;
      tried = tried_with k (Retry q ∷ []) after.waiting still.tried;
      outstanding = out_taken (Retry q) h;
      written = ap (λ bs. bs ++ Retry q ∷ []) none;
    }
    by_actions (Retry q ∷ Field r reason place ∷ []) h = record {
      tables = record { opened = held.opened; pending = held.pending; connections = held.connections };
      waiting = still.waiting;
      tried = tried_with k (Retry q ∷ Field r reason place ∷ []) after.waiting still.tried;
      outstanding = record { out = still.outstanding.out; known = λ n x e. let was = still.outstanding.known n x e in record { request = was.request; sent = was.sent; tried = was.tried } };
      written = ap (λ bs. bs ++ Retry q ∷ Field r reason place ∷ []) none;
    }
    by_actions _ h = absurd h

-- a response, where the router knows the addresses that the journal does
pub answer_keeps : (is_address : Origin → Addr → Bool) (s : StepState) (j : Journal) (now request status age : ℕ) (altsvc : Option (List ℕ)) → is_address ≡ known_at j now → s.actions ≡ [] → Sound j → AreRising (requests j) → is_out (standing j request) ≡ true →
    Hold s.tables j → requests_of s.tables.requests.waiting ≡ waiting j → AreTried j s.tables.requests.waiting → AreOut j s.tables.requests.outstanding →
    Keeps (answered is_address s request status altsvc) (with_actions (Happened now (Response request status age altsvc) true ∷ j) (answer_effects j now request status altsvc))
    (waiting (with_actions (Happened now (Response request status age altsvc) true ∷ j) (answer_effects j now request status altsvc)))
answer_keeps is_address s j now request status age altsvc seen none sound rise out hold asked tried outs = by_found (request_among s.tables.requests.outstanding request) refl (outs.out request ∙ out)
  where
    k : List Action → Journal
    k as' = with_actions (Happened now (Response request status age altsvc) true ∷ j) as'

    effects_now : List Action
    effects_now = answer_effects j now request status altsvc

    written_now : (x : Outstanding) → request_of j request ≡ Some x.request → answer_done is_address s.tables.connections request status altsvc (Some x) ≡ effects_now
    written_now x known = ap (λ at. answer_done at s.tables.connections request status altsvc (Some x)) seen ∙ written_is s.tables j now request status altsvc x hold known

    by_found : (v : Option Outstanding) → request_among s.tables.requests.outstanding request ≡ v → is_some v ≡ true →
        Keeps (answered_so s request status v (answer_done is_address s.tables.connections request status altsvc v)) (k effects_now) (waiting (k effects_now))
    by_found None e some = absurd (true≢false (sym some))
    by_found (Some x) e some =
        let known : request_of j request ≡ Some x.request = (outs.known request x e).request in
        subst (λ as'. Keeps (answered_so s request status (Some x) as') (k effects_now) (waiting (k effects_now))) (sym (written_now x known))
        (answered_keeps s j now request status age altsvc x effects_now known none (answer_is j now request status altsvc) sound rise out hold asked tried outs)
