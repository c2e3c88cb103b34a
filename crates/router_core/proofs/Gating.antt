-- An ORIGIN frame that is accepted changes of the connections what it changes in the journal (RFC 8336 2.3).
use Rattle.std.proofs.Common.{◌≡◌, ℕ, Bool, true, false, cond, not, ◌&&◌, ◌||◌, nat_eq, List, [], ◌∷◌, map, Option, Some, None, is_some, refl, ap, sym, ◌∙◌}
use Rattle.std.specs.Option.{option_map, option_map_or, option_and_then}
use Rattle.alt_base.proofs.Numbers.{true_eq}
use Rattle.conn_states.specs.Changes.{with_listed}
use Rattle.conn_states.specs.Origins.{is_among, joined, without, known}
use Rattle.conn_states.specs.Record.{Record}
use Rattle.conn_states.specs.Said.{said, in_set}
use Rattle.conn_states.proofs.Joined.{joined_none, joined_next}
use Rattle.h2_framing.specs.declared.head.Head.{Head}
use Rattle.origin_frame.specs.PayloadReading.{read_listed}
use Rattle.origin_values.specs.Equality.{origin_eq}
use Rattle.origin_values.specs.declared.origin.Origin.{Origin}
use Rattle.origin_values.proofs.Equal.{true_origin}
use Rattle.route_events.specs.declared.connection.Connection.{Connection}
use Rattle.route_events.specs.declared.fact.Fact.{Fact}
use Rattle.route_events.specs.declared.fact.Fact.TheVariants.{Delivered}
use Rattle.route_events.specs.Journal.{Happened, Journal}
use Rattle.route_events.specs.Connections.{connections, is_open, open_connections, open_connection, outstanding, send_count, is_tls}
use Rattle.route_events.specs.Misdirection.{is_misdirected}
use Rattle.route_events.specs.OriginSets.{origins_of, listed_by, lists, came_on, is_gated, is_initial, in_set as in_journal_set}
use Rattle.route_events.specs.Records.{ConnectionRecord}
use Rattle.route_events.specs.Authority.{is_success, is_upheld, record_of}
use Rattle.route_events.proofs.Lists.{IsIn, nat_eq-flip, apart_filter, find_apart}
use Rattle.route_events.proofs.Sound.{Sound}
use Rattle.request_dispatch.specs.ConnectionTable.{connection_among, listed_on}
use Rattle.request_dispatch.specs.declared.tables.Tables.{Tables}
use Rattle.request_dispatch.proofs.Listing.{map_same_in}
use Rattle.router_core.specs.Holds.{Hold}
use Rattle.router_core.specs.FrameEffects.{listed_at, listed_in, with_listing}
use Rattle.router_core.proofs.Answering.{among_more}
use Rattle.router_core.proofs.Applying.{changed}
use Rattle.router_core.proofs.Choosing.{among_is}

-- a list that more joins holds what either holds

or_none : (b : Bool) → (b || false) ≡ b
or_none true = refl
or_none false = refl

or_assoc : (a b c : Bool) → ((a || b) || c) ≡ (a || (b || c))
or_assoc true b c = refl
or_assoc false b c = refl

among_joined : (ks os : List Origin) (p : Origin) → is_among (joined ks os) p ≡ (is_among ks p || is_among os p)
among_joined ks [] p = ap (λ xs. is_among xs p) (joined_none ks) ∙ sym (or_none (is_among ks p))
among_joined ks (o ∷ os) p =
    ap (λ xs. is_among xs p) (sym (joined_next ks o os))
    ∙ among_joined (joined ks (o ∷ [])) os p
    ∙ ap (λ b. b || is_among os p) (among_more o ks p)
    ∙ or_assoc (is_among ks p) (origin_eq o p) (is_among os p)

-- what is left of a list holds what some others don't hold
among_without : (os ms : List Origin) (p : Origin) → is_among (without os ms) p ≡ (not (is_among os p) && is_among ms p)
among_without os [] p = by_test (is_among os p)
  where
    by_test : (b : Bool) → false ≡ (not b && false)
    by_test true = refl
    by_test false = refl
among_without os (m ∷ ms) p = by_tests (is_among os m) (origin_eq m p) refl refl (among_without os ms p)
  where
    by_tests : (a b : Bool) → is_among os m ≡ a → origin_eq m p ≡ b → is_among (without os ms) p ≡ (not (is_among os p) && is_among ms p) →
        is_among (cond (not a) (m ∷ without os ms) (without os ms)) p ≡ (not (is_among os p) && (b || is_among ms p))
    by_tests true true held same rest = rest ∙ ap (λ c. not c && is_among ms p) listed ∙ sym (ap (λ c. not c && true) listed)
      where
        listed : is_among os p ≡ true
        listed = ap (is_among os) (sym (true_origin m p same)) ∙ held
    by_tests true false held other rest = rest
    by_tests false true free same rest = ap (λ c. c || is_among (without os ms) p) same ∙ sym (ap (λ c. not c && true) (ap (is_among os) (sym (true_origin m p same)) ∙ free))
    by_tests false false free other rest = ap (λ c. c || is_among (without os ms) p) other ∙ rest

-- the change of a record
abbrev pub listed_record : ℕ → List Origin → ConnectionRecord → ConnectionRecord
listed_record conn os r =
    cond (nat_eq r.made.number conn)
    (record { made = r.made; bound = r.bound; gated = true; holds = λ o. r.holds o || is_among os o; misdirected = λ o. not (is_among os o) && r.misdirected o; outstanding = r.outstanding; sends = r.sends })
    r

listed_says : (conn : ℕ) (os : List Origin) (c : Record) → said (listed_on conn os c) ≡ listed_record conn os (said c)
listed_says conn os c = by_test (nat_eq c.number conn)
  where
    set_is : (o : Origin) → in_set (with_listed os c) o ≡ (in_set c o || is_among os o)
    set_is o =
        ap (λ b. is_initial (said c).made o || b) (among_joined (known c.listed) os o)
        ∙ sym (or_assoc (is_initial (said c).made o) (is_among (known c.listed) o) (is_among os o))

    by_test : (b : Bool) → said (cond b (with_listed os c) c) ≡
        cond b (record { made = (said c).made; bound = c.bound; gated = true; holds = λ o. in_set c o || is_among os o; misdirected = λ o. not (is_among os o) && is_among c.misdirected o; outstanding = c.outstanding; sends = c.sends }) (said c)
    by_test true = λ i. record { made = (said c).made; bound = c.bound; gated = true; holds = λ o. set_is o i; misdirected = λ o. among_without os c.misdirected o i; outstanding = c.outstanding; sends = c.sends }
    by_test false = refl

-- the same, as the journal says it
by_number : (conn : ℕ) (head : Head) (payload : List ℕ) (x : Connection) → listed_by x (Delivered conn head payload) ≡ cond (nat_eq conn x.number) (listed_at head payload x) None
by_number conn head payload x = by_test (nat_eq conn x.number)
  where
    by_test : (b : Bool) → cond (b && (is_tls x && nat_eq head.kind 12)) (origins_of (read_listed head.stream head.flags payload)) None ≡ cond b (listed_at head payload x) None
    by_test true = refl
    by_test false = refl

pub listed_is : (t : Tables) (j : Journal) (conn : ℕ) (head : Head) (payload : List ℕ) → Hold t j → listed_in t.connections conn head payload ≡ option_and_then (listed_at head payload) (open_connection j conn)
listed_is t j conn head payload hold =
    of_records (connection_among t.connections conn) ∙ ap (option_and_then at) (among_is t j conn hold) ∙ of_journal (open_connection j conn)
  where
    at : ConnectionRecord → Option (List Origin)
    at r = listed_at head payload r.made

    of_records : (v : Option Record) → option_and_then (λ (c : Record). listed_at head payload (said c).made) v ≡ option_and_then at (option_map said v)
    of_records None = refl
    of_records (Some c) = refl

    of_journal : (v : Option Connection) → option_and_then at (option_map (record_of j) v) ≡ option_and_then (listed_at head payload) v
    of_journal None = refl
    of_journal (Some x) = refl

-- the connections after a frame
pub hold_listing : (t : Tables) (j : Journal) (now conn : ℕ) (head : Head) (payload : List ℕ) (h : Bool) → Sound j → Hold t j →
    Hold (record { attempts = t.attempts; requests = t.requests; connections = with_listing conn (listed_in t.connections conn head payload) t.connections }) (Happened now (Delivered conn head payload) h ∷ j)
hold_listing t j now conn head payload h sound hold = record {
  opened = hold.opened;
  pending = hold.pending;
  connections = by_listed (listed_in t.connections conn head payload) (listed_is t j conn head payload hold);
}
  where
    f : Fact
    f = Delivered conn head payload

    k : Journal
    k = Happened now f h ∷ j

    -- the connection's own number finds it
    is_found : (x : Connection) → IsIn x (open_connections j) → nat_eq conn x.number ≡ true → open_connection j conn ≡ Some x
    is_found x there same =
        ap (open_connection j) (true_eq conn x.number same)
        ∙ find_apart (λ (c : Connection). c.number) (open_connections j) x (apart_filter (λ (c : Connection). c.number) (is_open j) (connections j) sound.connections_apart) there

    listing_of : (v : Option (List Origin)) → v ≡ option_and_then (listed_at head payload) (open_connection j conn) → (x : Connection) → IsIn x (open_connections j) → listed_by x f ≡ cond (nat_eq conn x.number) v None
    listing_of v is x there = by_number conn head payload x ∙ by_test (nat_eq conn x.number) refl
      where
        by_test : (b : Bool) → nat_eq conn x.number ≡ b → cond b (listed_at head payload x) None ≡ cond b v None
        by_test true e = sym (is ∙ ap (option_and_then (listed_at head payload)) (is_found x there e))
        by_test false e = refl

    built : Connection → Option (List Origin) → ConnectionRecord
    built x v = record {
      made = x;
      bound = is_success x && is_upheld j x;
      gated = is_some v || is_gated j x;
      holds = λ o. is_initial x o || (option_map_or (λ os. is_among os o) v false || came_on (lists x o) j x);
      misdirected = λ o. not (option_map_or (λ os. is_among os o) v false) && is_misdirected j x o;
      outstanding = outstanding j x.number;
      sends = send_count j x.number;
    }

    by_listed : (v : Option (List Origin)) → v ≡ option_and_then (listed_at head payload) (open_connection j conn) → map said (with_listing conn v t.connections) ≡ map (record_of k) (open_connections j)
    by_listed None is =
        hold.connections ∙ map_same_in (record_of j) (record_of k) (open_connections j) (λ x there. λ i. built x (sym (listing_of None is x there ∙ nothing (nat_eq conn x.number)) i))
      where
        nothing : (b : Bool) → cond {A = Option (List Origin)} b None None ≡ None
        nothing true = refl
        nothing false = refl
    by_listed (Some os) is = changed (listed_on conn os) (listed_record conn os) t.connections j k (open_connections j) (λ c found. listed_says conn os c) each hold.connections
      where
        turned : (a b c : Bool) → ((a || b) || c) ≡ (a || (c || b))
        turned true b c = refl
        turned false true true = refl
        turned false true false = refl
        turned false false true = refl
        turned false false false = refl

        by_test : (x : Connection) (b : Bool) → nat_eq x.number conn ≡ b →
            cond b (record { made = x; bound = is_success x && is_upheld j x; gated = true; holds = λ o. in_journal_set j x o || is_among os o; misdirected = λ o. not (is_among os o) && is_misdirected j x o; outstanding = outstanding j x.number; sends = send_count j x.number }) (record_of j x)
            ≡ built x (cond b (Some os) None)
        by_test x true e = λ i. record { made = x; bound = is_success x && is_upheld j x; gated = true; holds = λ o. turned (is_initial x o) (came_on (lists x o) j x) (is_among os o) i; misdirected = λ o. not (is_among os o) && is_misdirected j x o; outstanding = outstanding j x.number; sends = send_count j x.number }
        by_test x false e = refl

        each : (x : Connection) → IsIn x (open_connections j) → listed_record conn os (record_of j x) ≡ record_of k x
        each x there = by_test x (nat_eq x.number conn) refl ∙ ap (λ b. built x (cond b (Some os) None)) (flip x) ∙ ap (built x) (sym (listing_of (Some os) is x there))
          where
            flip : (x : Connection) → nat_eq x.number conn ≡ nat_eq conn x.number
            flip x = nat_eq-flip x.number conn
