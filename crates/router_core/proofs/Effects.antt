-- The effect of a fact on what a router keeps is its effect on the journal.
use Rattle.std.proofs.Common.{◌≡◌, inl, inr, ℕ, ◌<◌, Bool, true, false, cond, not, ◌&&◌, ◌||◌, nat_eq, List, [], ◌∷◌, ◌++◌, map, filter, find, Option, Some, None, is_some, refl, ap, sym, ◌∙◌, subst, arith, true≢false}
use Rattle.std.proofs.lemmas.List.{map-append}
use Rattle.std.proofs.lemmas.Bool.{not-true}
use Rattle.alt_base.proofs.Numbers.{eq_self, true_eq}
use Rattle.std.specs.Option.{option_map, option_map_or}
use Rattle.std.specs.List.{list_any}
use Rattle.std.proofs.lemmas.List.Folds.{list_any-append}
use Rattle.coalescing.specs.declared.cert_name.CertName.{CertName}
use Rattle.origin_values.specs.Equality.{origin_eq}
use Rattle.origin_values.specs.declared.origin.Origin.{Origin}
use Rattle.origin_values.specs.declared.proto.Proto.{Proto}
use Rattle.origin_values.specs.declared.address.Addr.{Addr}
use Rattle.route_events.specs.declared.fact.Fact.{Fact}
use Rattle.route_events.specs.declared.fact.Fact.TheVariants as fact
use Rattle.route_events.specs.declared.action.Action.TheVariants.{Lost, Close}
use Rattle.route_events.specs.declared.route.Route.{Route}
use Rattle.route_events.specs.declared.request.Request.{Request}
use Rattle.route_events.specs.declared.attempt.Attempt.{Attempt}
use Rattle.route_events.specs.declared.connection.Connection.{Connection}
use Rattle.route_events.specs.Journal.{Happened, Cut, Taken, Journal}
use Rattle.route_events.specs.Attempts.{attempts, has_ended, pending, pending_attempt}
use Rattle.route_events.specs.Requests.{Standing, Waits, OutOn, Over, requests, request_of, newest_number, standing, waits, is_out, waiting, sent_to}
use Rattle.route_events.specs.Dispatch.{or_else}
use Rattle.route_events.specs.Connections.{connections, closes, is_open, open_connections, is_open_number, outstanding, send_count, without}
use Rattle.altsvc_grammar.specs.declared.alt.Alt.{Alt}
use Rattle.route_events.specs.Misdirection.{is_misdirected}
use Rattle.route_events.specs.Alternatives.{live}
use Rattle.route_events.specs.Authority.{route_eq, is_success, gives, is_upheld}
use Rattle.route_events.specs.OriginSets.{lists, came_on, is_gated, is_initial}
use Rattle.route_events.specs.Routes.{was_tried}
use Rattle.route_events.specs.Step.{with_actions}
use Rattle.route_events.proofs.Lists.{IsIn, nat_eq-flip, nat_eq-below, in_filter, filter_same, filter_same_in, filter_end, filter_twice}
use Rattle.route_events.proofs.Sound.{Sound, opened_of}
use Rattle.route_choice.specs.Usable.{is_listed}
use Rattle.route_events.specs.Records.{ConnectionRecord}
use Rattle.route_events.specs.Authority.{record_of}
use Rattle.conn_states.specs.Record.{Record}
use Rattle.conn_states.specs.Said.{said}
use Rattle.request_dispatch.specs.declared.outstanding.Outstanding.{Outstanding}
use Rattle.request_dispatch.specs.declared.tables.Tables.{Tables}
use Rattle.request_dispatch.specs.declared.waiting.Waiting.{Waiting}
use Rattle.request_dispatch.specs.AttemptTable.{other_attempts, without_attempt}
use Rattle.request_dispatch.specs.RequestTable.{RequestTable, requests_of, request_among, without_all, tried_more, tried_after, out_tried_after}
use Rattle.request_dispatch.specs.ConnectionTable.{connection_among, other_connections, out_on}
use Rattle.request_dispatch.proofs.Listing.{map_same_in, filter_map, find_map, find_append}
use Rattle.router_core.specs.Holds.{Hold, AreTried, IsOut, AreOut}
use Rattle.router_core.specs.Effects.{made_of, begun_of}
use Rattle.router_core.proofs.Applying.{tried_taken, tried_append}
use Rattle.router_core.proofs.Choosing.{among_is}
use Rattle.router_core.proofs.LeftOut.{out_moved, without_more, none_left_out, known_number}

or_not : (a b : Bool) → not (a || b) ≡ (not b && not a)
or_not true true = refl
or_not true false = refl
or_not false true = refl
or_not false false = refl

-- a request arrives

other_waits : (j : Journal) (now n : ℕ) (o : Origin) (r : Request) → r.number < n → waits (standing (Happened now (fact.Request n o) true ∷ j) r.number) ≡ waits (standing j r.number)
other_waits j now n o r below = rw (nat_eq-flip n r.number, nat_eq-below r.number n below) refl

pub waiting_request : (j : Journal) (now n : ℕ) (o : Origin) → Sound j → newest_number j < n → waiting (Happened now (fact.Request n o) true ∷ j) ≡ waiting j ++ record { number = n; origin = o } ∷ []
waiting_request j now n o sound above =
    filter_end p (requests j) q
    ∙ ap (λ (qs : List Request). qs ++ cond {A = List Request} (p q) (q ∷ []) []) (filter_same_in p (λ (r : Request). waits (standing j r.number)) (requests j) (λ r found. other_waits j now n o r (omega (arith, above, sound.newest r found))))
    ∙ ap (λ b. waiting j ++ cond {A = List Request} b (q ∷ []) []) own
  where
    q : Request
    q = record { number = n; origin = o }

    p : Request → Bool
    p r = waits (standing (Happened now (fact.Request n o) true ∷ j) r.number)

    own : waits (standing (Happened now (fact.Request n o) true ∷ j) n) ≡ true
    own = rw (eq_self n) refl

-- what is tried stays, for requests that arrived before
tried_request : (j : Journal) (now n : ℕ) (o : Origin) (ws : List Waiting) → ((q : Request) → IsIn q (requests_of ws) → q.number < n) → AreTried j ws → AreTried (Happened now (fact.Request n o) true ∷ j) ws
tried_request j now n o [] below h = tt
tried_request j now n o (w ∷ ws) below h =
    (λ r. h.0 r ∙ sym (rw (nat_eq-flip n w.request.number, nat_eq-below w.request.number n (below w.request (inl refl))) refl), tried_request j now n o ws (λ q found. below q (inr found)) h.1)

pub tried_arrival : (j : Journal) (now n : ℕ) (o : Origin) (ws : List Waiting) → ((q : Request) → IsIn q (requests_of ws) → q.number < n) → AreTried j ws →
    AreTried (Happened now (fact.Request n o) true ∷ j) (ws ++ record { request = record { number = n; origin = o }; tried = [] } ∷ [])
tried_arrival j now n o ws below h = tried_append (Happened now (fact.Request n o) true ∷ j) ws (record { request = record { number = n; origin = o }; tried = [] }) (tried_request j now n o ws below h) (λ r. rw (eq_self n) refl)

-- an attempt ends

-- the other pending attempts
pub pending_ended : (j : Journal) (m : ℕ) → filter (λ (a : Attempt). not (nat_eq m a.number || has_ended j a.number)) (attempts j) ≡ other_attempts (pending j) m
pending_ended j m =
    filter_same (λ (a : Attempt). not (nat_eq m a.number || has_ended j a.number)) (λ (a : Attempt). not (has_ended j a.number) && not (nat_eq m a.number)) (attempts j) (λ a. or_not (nat_eq m a.number) (has_ended j a.number))
    ∙ sym (filter_twice (λ (a : Attempt). not (nat_eq m a.number)) (λ (a : Attempt). not (has_ended j a.number)) (attempts j))

pub requests_tried : (o : Origin) (r : Route) (ws : List Waiting) → requests_of (map (tried_after o r) ws) ≡ requests_of ws
requests_tried o r [] = refl
requests_tried o r (w ∷ ws) = ap (λ qs. w.request ∷ qs) (requests_tried o r ws)

-- each entry that ends an attempt is a try for the requests of its origin
one_tried : (q : Request) (tried : List Route) (o : Origin) (route r : Route) → is_listed (tried_more o route q tried) r ≡ ((origin_eq o q.origin && route_eq route r) || is_listed tried r)
one_tried q tried o route r = by_test (origin_eq o q.origin) refl
  where
    swapped : (a b : Bool) → (a || (b || false)) ≡ (b || a)
    swapped true true = refl
    swapped true false = refl
    swapped false true = refl
    swapped false false = refl

    by_test : (b : Bool) → origin_eq o q.origin ≡ b → is_listed (tried_more o route q tried) r ≡ ((b && route_eq route r) || is_listed tried r)
    by_test true e = rw e (list_any-append (λ t. route_eq t r) tried (route ∷ []) ∙ swapped (list_any (λ t. route_eq t r) tried) (route_eq route r))
    by_test false e = rw e refl

-- a fact that ends the pending attempt of a number
abbrev pub EndsAttempt : Fact → ℕ → Type 0
EndsAttempt (fact.Opened attempt proto addr port names) m = attempt ≡ m
EndsAttempt (fact.Failed attempt) m = attempt ≡ m
EndsAttempt _ m = ⊥

tried_by : (j : Journal) (now : ℕ) (f : Fact) (m : ℕ) (a : Attempt) → EndsAttempt f m → pending_attempt j m ≡ Some a → (q : Request) (r : Route) →
    was_tried (Happened now f true ∷ j) q r ≡ ((origin_eq a.origin q.origin && route_eq a.route r) || was_tried j q r)
tried_by j now (fact.Opened attempt proto addr port names) m a ends found q r = rw (ends, found) refl
tried_by j now (fact.Failed attempt) m a ends found q r = rw (ends, found) refl
tried_by j now _ m a ends found q r = absurd ends

-- what was tried for a request, after the end of an attempt
tried_now : (j : Journal) (now : ℕ) (f : Fact) (m : ℕ) (a : Attempt) (q : Request) (tried : List Route) → EndsAttempt f m → pending_attempt j m ≡ Some a → ((r : Route) → is_listed tried r ≡ was_tried j q r) →
    (r : Route) → is_listed (tried_more a.origin a.route q tried) r ≡ was_tried (Happened now f true ∷ j) q r
tried_now j now f m a q tried ends found h r =
    one_tried q tried a.origin a.route r ∙ ap (λ b. (origin_eq a.origin q.origin && route_eq a.route r) || b) (h r) ∙ sym (tried_by j now f m a ends found q r)

pub tried_ended : (j : Journal) (now : ℕ) (f : Fact) (m : ℕ) (a : Attempt) (ws : List Waiting) → EndsAttempt f m → pending_attempt j m ≡ Some a → AreTried j ws → AreTried (Happened now f true ∷ j) (map (tried_after a.origin a.route) ws)
tried_ended j now f m a [] ends found h = tt
tried_ended j now f m a (w ∷ ws) ends found h = (tried_now j now f m a w.request w.tried ends found h.0, tried_ended j now f m a ws ends found h.1)

-- the end of an attempt moves no request
unmoved : (j : Journal) (now : ℕ) (f : Fact) (m n : ℕ) → EndsAttempt f m → (is_out (standing j n) ≡ is_out (standing (Happened now f true ∷ j) n)) × (request_of (Happened now f true ∷ j) n ≡ request_of j n) × (sent_to (Happened now f true ∷ j) n ≡ sent_to j n)
unmoved j now (fact.Opened attempt proto addr port names) m n ends = (refl, refl, refl)
unmoved j now (fact.Failed attempt) m n ends = (refl, refl, refl)
unmoved j now _ m n ends = absurd ends

map_some : {X : Type 0} (f : X → X) (v : Option X) → is_some (option_map f v) ≡ is_some v
map_some f None = refl
map_some f (Some x) = refl

among_tried : (o : Origin) (r : Route) (outs : List Outstanding) (n : ℕ) → request_among (map (out_tried_after o r) outs) n ≡ option_map (out_tried_after o r) (request_among outs n)
among_tried o r outs n = find_map (λ (x : Outstanding). nat_eq x.request.number n) (out_tried_after o r) outs

pub out_ended : (j : Journal) (now : ℕ) (f : Fact) (m : ℕ) (a : Attempt) (outs : List Outstanding) → EndsAttempt f m → pending_attempt j m ≡ Some a → AreOut j outs → AreOut (Happened now f true ∷ j) (map (out_tried_after a.origin a.route) outs)
out_ended j now f m a outs ends found are = record {
  out = λ n. ap is_some (among_tried a.origin a.route outs n) ∙ map_some (out_tried_after a.origin a.route) (request_among outs n) ∙ are.out n ∙ (unmoved j now f m n ends).0;
  known = λ n x is. by_found n x (request_among outs n) refl (sym (among_tried a.origin a.route outs n) ∙ is);
}
  where
    k : Journal
    k = Happened now f true ∷ j

    out_is : (n : ℕ) (x : Outstanding) → IsOut j n x → IsOut k n (out_tried_after a.origin a.route x)
    out_is n x was =
        let same = unmoved j now f m n ends in
        record { request = same.1 ∙ was.request; sent = same.2 ∙ was.sent; tried = tried_now j now f m a x.request x.tried ends found was.tried }

    by_found : (n : ℕ) (x : Outstanding) (v : Option Outstanding) → request_among outs n ≡ v → option_map (out_tried_after a.origin a.route) v ≡ Some x → IsOut k n x
    by_found n x None e is = absurd (true≢false (sym (ap is_some is)))
    by_found n x (Some y) e is = subst (IsOut k n) (some_is (out_tried_after a.origin a.route y) x is) (out_is n y (are.known n y e))
      where
        some_is : (x y : Outstanding) → Some x ≡ Some y → x ≡ y
        some_is x y e = cc

pub hold_ended : (t : Tables) (j : Journal) (now m : ℕ) (requests : RequestTable) → Hold t j → Hold (record { attempts = without_attempt m t.attempts; requests = requests; connections = t.connections }) (Happened now (fact.Failed m) true ∷ j)
hold_ended t j now m requests hold = record {
  opened = hold.opened;
  pending = ap (λ as'. other_attempts as' m) hold.pending ∙ sym (pending_ended j m);
  connections = hold.connections;
}

-- a connection is made

-- a new connection, as the router keeps it
begun_is : (live_now : Origin → List Alt) (j : Journal) (now m : ℕ) (c : Connection) (p : Proto) (d : Addr) (port : ℕ) (names : List CertName) → c.number ≡ m → Sound j → has_ended j m ≡ false → ((o : Origin) → live_now o ≡ live j o now) →
    said (begun_of live_now c) ≡ record_of (Happened now (fact.Opened m p d port names) true ∷ j) c
begun_is live_now j now m c p d port names numbered sound fresh sees =
    λ i. record { made = c; bound = is_success c && bound_now i; gated = not (sym own i) && is_gated j c; holds = λ o. is_initial c o || (not (sym own i) && came_on (lists c o) j c); misdirected = λ o. not (sym own i) && is_misdirected j c o; outstanding = none i; sends = never i }
  where
    own : nat_eq m c.number ≡ true
    own = ap (λ n. nat_eq m n) numbered ∙ eq_self m

    bound_now : gives (live_now c.origin) c.route ≡ cond (nat_eq m c.number) (gives (live j c.origin now) c.route) (is_upheld j c)
    bound_now = ap (λ alts. gives alts c.route) (sees c.origin) ∙ ap (λ b. cond b (gives (live j c.origin now) c.route) (is_upheld j c)) (sym own)

    none : [] ≡ outstanding j c.number
    none = sym (sound.unused m fresh).0 ∙ ap (outstanding j) (sym numbered)

    never : 0 ≡ send_count j c.number
    never = sym (sound.unused m fresh).1 ∙ ap (send_count j) (sym numbered)

-- the other connections keep their ground
others_kept : (j : Journal) (now m : ℕ) (p : Proto) (d : Addr) (port : ℕ) (names : List CertName) → Sound j → has_ended j m ≡ false → map (record_of j) (open_connections j) ≡ map (record_of (Happened now (fact.Opened m p d port names) true ∷ j)) (open_connections j)
others_kept j now m p d port names sound fresh =
    map_same_in (record_of j) (record_of (Happened now (fact.Opened m p d port names) true ∷ j)) (open_connections j) (λ x found. same x (other x (in_filter (is_open j) x (connections j) found).0))
  where
    other : (x : Connection) → IsIn x (connections j) → nat_eq m x.number ≡ false
    other x found = by_test (nat_eq m x.number) refl
      where
        by_test : (b : Bool) → nat_eq m x.number ≡ b → b ≡ false
        by_test false e = refl
        by_test true e = absurd (true≢false (sym (sound.ended x found) ∙ ap (has_ended j) (sym (true_eq m x.number e)) ∙ fresh))

    same : (x : Connection) → nat_eq m x.number ≡ false → record_of j x ≡ record_of (Happened now (fact.Opened m p d port names) true ∷ j) x
    same x e = λ i. record { made = x; bound = is_success x && cond (sym e i) (gives (live j x.origin now) x.route) (is_upheld j x); gated = not (sym e i) && is_gated j x; holds = λ o. is_initial x o || (not (sym e i) && came_on (lists x o) j x); misdirected = λ o. not (sym e i) && is_misdirected j x o; outstanding = outstanding j x.number; sends = send_count j x.number }

pub hold_opened : (live_now : Origin → List Alt) (t : Tables) (j : Journal) (now m : ℕ) (a : Attempt) (p : Proto) (d : Addr) (port : ℕ) (names : List CertName) (requests : RequestTable) → Sound j → ((o : Origin) → live_now o ≡ live j o now) → pending_attempt j m ≡ Some a → a.number ≡ m → has_ended j m ≡ false → Hold t j →
    Hold (record { attempts = without_attempt a.number t.attempts; requests = requests; connections = t.connections ++ begun_of live_now (made_of a p d port names) ∷ [] }) (Happened now (fact.Opened m p d port names) true ∷ j)
hold_opened live_now t j now m a p d port names requests sound sees found numbered fresh hold = record {
  opened = hold.opened;
  pending = ap (λ as'. other_attempts as' a.number) hold.pending ∙ ap (other_attempts (pending j)) numbered ∙ sym (pending_ended j m);
  connections =
      map-append said t.connections (begun_of live_now (made_of a p d port names) ∷ [])
      ∙ (λ i. (hold.connections ∙ others_kept j now m p d port names sound fresh) i ++ begun i ∷ [])
      ∙ sym (map-append (record_of k) (open_connections j) (c ∷ []))
      ∙ ap (map (record_of k)) (sym opened_now);
}
  where
    k : Journal
    k = Happened now (fact.Opened m p d port names) true ∷ j

    c : Connection
    c = record { number = m; origin = a.origin; route = a.route; proto = p; addr = d; port = port; names = names }

    begun : said (begun_of live_now (made_of a p d port names)) ≡ record_of k c
    begun = ap (λ n. said (begun_of live_now (record { number = n; origin = a.origin; route = a.route; proto = p; addr = d; port = port; names = names }))) numbered ∙ begun_is live_now j now m c p d port names refl sound fresh sees

    open_now : is_open j c ≡ true
    open_now = ap not (sound.unused m fresh).2

    opened_now : open_connections k ≡ open_connections j ++ c ∷ []
    opened_now = rw found (filter_end (is_open j) (connections j) c ∙ ap (λ b. open_connections j ++ cond {A = List Connection} b (c ∷ []) []) open_now)

-- a connection ends

pub opened_closed : (j : Journal) (now c : ℕ) → open_connections (Happened now (fact.Closed c) true ∷ j) ≡ filter (λ (x : Connection). not (nat_eq c x.number)) (open_connections j)
opened_closed j now c =
    filter_same (is_open (Happened now (fact.Closed c) true ∷ j)) (λ (x : Connection). is_open j x && not (nat_eq c x.number)) (connections j) (λ x. or_not (nat_eq c x.number) (list_any (closes x.number) j))
    ∙ sym (filter_twice (λ (x : Connection). not (nat_eq c x.number)) (is_open j) (connections j))

-- the same, where its octets are cut
pub opened_cut : (j : Journal) (now c count : ℕ) → open_connections (Taken (Close c count) ∷ Cut now c count ∷ j) ≡ filter (λ (x : Connection). not (nat_eq c x.number)) (open_connections j)
opened_cut j now c count =
    filter_same (is_open (Taken (Close c count) ∷ Cut now c count ∷ j)) (λ (x : Connection). is_open j x && not (nat_eq c x.number)) (connections j) (λ x. or_not (nat_eq c x.number) (list_any (closes x.number) j))
    ∙ sym (filter_twice (λ (x : Connection). not (nat_eq c x.number)) (is_open j) (connections j))

-- what was outstanding on it
pub out_on_is : (t : Tables) (j : Journal) (c : ℕ) → Hold t j → is_open_number j c ≡ true → out_on (connection_among t.connections c) ≡ outstanding j c
out_on_is t j c hold h =
    let is = opened_of j c h in
    out_of (connection_among t.connections c) ∙ ap out_of_record (among_is t j c hold ∙ ap (option_map (record_of j)) is.found) ∙ ap (outstanding j) is.numbered
  where
    out_of_record : Option ConnectionRecord → List ℕ
    out_of_record None = []
    out_of_record (Some r) = r.outstanding

    out_of : (v : Option Record) → out_on v ≡ out_of_record (option_map said v)
    out_of None = refl
    out_of (Some k) = refl

-- a request that is lost isn't outstanding elsewhere
abbrev pub IsNowhere : Journal → ℕ → Type 0
IsNowhere j q = (x : Connection) → IsIn x (open_connections j) → IsIn q (outstanding j x.number) → ⊥

without_none : (q : ℕ) (qs : List ℕ) → (IsIn q qs → ⊥) → without q qs ≡ qs
without_none q [] h = refl
without_none q (r ∷ qs) h = by_test (nat_eq r q) refl (without_none q qs (λ found. h (inr found)))
  where
    by_test : (b : Bool) → nat_eq r q ≡ b → without q qs ≡ qs → cond {A = List ℕ} (not b) (r ∷ without q qs) (without q qs) ≡ r ∷ qs
    by_test true e rest = absurd (h (inl (sym (true_eq r q e))))
    by_test false e rest = ap (λ rs. r ∷ rs) rest

hold_lost : (t : Tables) (j : Journal) (q : ℕ) → IsNowhere j q → Hold t j → Hold t (Taken (Lost q) ∷ j)
hold_lost t j q nowhere hold = record {
  opened = hold.opened;
  pending = hold.pending;
  connections = hold.connections ∙ map_same_in (record_of j) (record_of (Taken (Lost q) ∷ j)) (open_connections j)
      (λ x found. λ i. record { made = x; bound = is_success x && is_upheld j x; gated = is_gated j x; holds = (record_of j x).holds; misdirected = is_misdirected j x; outstanding = sym (without_none q (outstanding j x.number) (nowhere x found)) i; sends = send_count j x.number });
}

lost_waits : (q n : ℕ) (w : Option Standing) → (nat_eq q n ≡ true → waits w ≡ false) → waits (option_map_or Some (cond (nat_eq q n) (Some Over) None) w) ≡ waits w
lost_waits q n w h = by_test (nat_eq q n) h
  where
    by_test : (b : Bool) → (b ≡ true → waits w ≡ false) → waits (option_map_or Some (cond b (Some Over) None) w) ≡ waits w
    by_test true h = sym (h refl)
    by_test false h = refl

-- where one request is over that didn't wait, the same requests wait
pub waiting_over : (j k : Journal) (q : ℕ) → requests k ≡ requests j → ((n : ℕ) → standing k n ≡ option_map_or Some (cond (nat_eq q n) (Some Over) None) (standing j n)) → waits (standing j q) ≡ false → waiting k ≡ waiting j
waiting_over j k q same moved h =
    ap (filter (λ (r : Request). waits (standing k r.number))) same
    ∙ filter_same (λ (r : Request). waits (standing k r.number)) (λ (r : Request). waits (standing j r.number)) (requests j)
    (λ r. ap waits (moved r.number) ∙ lost_waits q r.number (standing j r.number) (λ e. subst (λ n. waits (standing j n) ≡ false) (true_eq q r.number e) h))

waiting_lost : (j : Journal) (q : ℕ) → waits (standing j q) ≡ false → waiting (Taken (Lost q) ∷ j) ≡ waiting j
waiting_lost j q h = waiting_over j (Taken (Lost q) ∷ j) q refl (λ n. refl) h

-- a request that arrives is outstanding nowhere
pub out_arrival : (j : Journal) (now n : ℕ) (o : Origin) (outs : List Outstanding) → Sound j → newest_number j < n → AreOut j outs → AreOut (Happened now (fact.Request n o) true ∷ j) outs
out_arrival j now n o outs sound above are = record {
  out = λ m. out_by m (nat_eq n m) refl;
  known = λ m x found. out_is m x (are.known m x found);
}
  where
    q : Request
    q = record { number = n; origin = o }

    k : Journal
    k = Happened now (fact.Request n o) true ∷ j

    out_is : (m : ℕ) (x : Outstanding) → IsOut j m x → IsOut k m x
    out_is m x was =
        let below = known_number j m x sound was in
        record {
          request = find_append (λ (r : Request). nat_eq r.number m) (requests j) (q ∷ []) ∙ ap (λ v. or_else v (find (λ (r : Request). nat_eq r.number m) (q ∷ []))) was.request;
          sent = was.sent;
          tried = λ r. was.tried r ∙ sym (rw (nat_eq-flip n x.request.number, nat_eq-below x.request.number n (omega (arith, above, below.1))) refl);
        }

    unknown : (v : Option Outstanding) → request_among outs n ≡ v → is_some v ≡ false
    unknown None e = refl
    unknown (Some x) e =
        let is = known_number j n x sound (are.known n x e) in
        absurd (omega (arith, above, is.0, is.1))

    out_by : (m : ℕ) (b : Bool) → nat_eq n m ≡ b → is_some (request_among outs m) ≡ is_out (option_map_or Some (cond b (Some Waits) None) (standing j m))
    out_by m true e = ap (λ k. is_some (request_among outs k)) (sym (true_eq n m e)) ∙ unknown (request_among outs n) refl
    out_by m false e = are.out m

lost_stays : (j : Journal) (q r : ℕ) → waits (standing j r) ≡ false → waits (standing (Taken (Lost q) ∷ j) r) ≡ false
lost_stays j q r h = lost_waits q r (standing j r) (λ e. h) ∙ h

-- what losing some requests leaves
pub record Loses (t : Tables) (j k : Journal) (qs : List ℕ) : Type 0 where
  pub tables : Hold t k
  pub waiting : waiting k ≡ waiting j
  pub outstanding : (outs : List Outstanding) → AreOut j outs → AreOut k (without_all qs outs)
  pub tried : (ws : List Waiting) → AreTried j ws → AreTried k ws

pub loses_all : (t : Tables) (j : Journal) (qs : List ℕ) → Hold t j → ((q : ℕ) → IsIn q qs → IsNowhere j q × (waits (standing j q) ≡ false)) → Loses t j (with_actions j (map Lost qs)) qs
loses_all t j [] hold h = record { tables = hold; waiting = refl; outstanding = λ outs are. subst (AreOut j) (sym (none_left_out outs)) are; tried = λ ws was. was }
loses_all t j (q ∷ qs) hold h =
    let here = h q (inl refl) in
    let rest = loses_all t (Taken (Lost q) ∷ j) qs (hold_lost t j q here.0 hold)
    (λ r found. (λ x there out. (h r (inr found)).0 x there (in_filter (λ n. not (nat_eq n q)) r (outstanding j x.number) out).0, lost_stays j q r (h r (inr found)).1)) in
    record {
      tables = rest.tables;
      waiting = rest.waiting ∙ waiting_lost j q here.1;
      outstanding = λ outs are. subst (AreOut (with_actions j (map Lost (q ∷ qs)))) (without_more q qs outs)
          (rest.outstanding (without_all (q ∷ []) outs) (out_moved j (Taken (Lost q) ∷ j) q Over outs refl (λ n x was. record { request = was.request; sent = was.sent; tried = was.tried }) (λ n. refl) are));
      tried = λ ws was. rest.tried ws (tried_taken j (Lost q) ws was);
    }

-- what was outstanding on a connection that ended is outstanding on no open one
ended_nowhere : (j k : Journal) (c q : ℕ) → open_connections k ≡ filter (λ (x : Connection). not (nat_eq c x.number)) (open_connections j) → ((n : ℕ) → outstanding k n ≡ outstanding j n) → Sound j → IsIn q (outstanding j c) →
    IsNowhere k q × (waits (standing j q) ≡ false)
ended_nowhere j k c q others same_out sound out = (other, ap waits (sound.out_stands c q out))
  where
    conn_of : Option Standing → ℕ
    conn_of (Some (OutOn n)) = n
    conn_of _ = 0

    other : IsNowhere k q
    other x there elsewhere =
        let apart = in_filter (λ (x : Connection). not (nat_eq c x.number)) x (open_connections j) (subst (IsIn x) others there) in
        let same : c ≡ x.number = ap conn_of (sym (sound.out_stands c q out) ∙ sound.out_stands x.number q (subst (IsIn q) (same_out x.number) elsewhere)) in
        true≢false (sym (eq_self x.number) ∙ ap (λ n. nat_eq n x.number) (sym same) ∙ not-true (nat_eq c x.number) apart.1)

pub nowhere_else : (j : Journal) (now c q : ℕ) → Sound j → IsIn q (outstanding j c) → IsNowhere (Happened now (fact.Closed c) true ∷ j) q × (waits (standing j q) ≡ false)
nowhere_else j now c q sound out = ended_nowhere j (Happened now (fact.Closed c) true ∷ j) c q (opened_closed j now c) (λ n. refl) sound out

pub nowhere_after_cut : (j : Journal) (now c count q : ℕ) → Sound j → IsIn q (outstanding j c) → IsNowhere (Taken (Close c count) ∷ Cut now c count ∷ j) q × (waits (standing j q) ≡ false)
nowhere_after_cut j now c count q sound out = ended_nowhere j (Taken (Close c count) ∷ Cut now c count ∷ j) c q (opened_cut j now c count) (λ n. refl) sound out

-- the table without the connection says what the journal says of the others
others_held : (t : Tables) (j : Journal) (c : ℕ) → Hold t j → map said (other_connections t.connections c) ≡ map (record_of j) (filter (λ (x : Connection). not (nat_eq c x.number)) (open_connections j))
others_held t j c hold =
    sym (filter_map (λ (r : ConnectionRecord). not (nat_eq c r.made.number)) said t.connections)
    ∙ ap (filter (λ (r : ConnectionRecord). not (nat_eq c r.made.number))) hold.connections
    ∙ filter_map (λ (r : ConnectionRecord). not (nat_eq c r.made.number)) (record_of j) (open_connections j)

pub hold_closed : (t : Tables) (j : Journal) (now c : ℕ) (requests : RequestTable) → Hold t j → Hold (record { attempts = t.attempts; requests = requests; connections = other_connections t.connections c }) (Happened now (fact.Closed c) true ∷ j)
hold_closed t j now c requests hold = record {
  opened = hold.opened;
  pending = hold.pending;
  connections = others_held t j c hold ∙ ap (map (record_of j)) (sym (opened_closed j now c));
}

pub hold_cut : (t : Tables) (j : Journal) (now c count : ℕ) (requests : RequestTable) → Hold t j →
    Hold (record { attempts = t.attempts; requests = requests; connections = other_connections t.connections c }) (Taken (Close c count) ∷ Cut now c count ∷ j)
hold_cut t j now c count requests hold = record {
  opened = hold.opened;
  pending = hold.pending;
  connections = others_held t j c hold ∙ ap (map (record_of j)) (sym (opened_cut j now c count));
}
