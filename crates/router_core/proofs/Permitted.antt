-- What a router chooses may be done: a request is sent only where the connection may carry it.
use Rattle.std.proofs.Common.{◌≡◌, inl, inr, ℕ, Bool, true, false, cond, not, ◌&&◌, nat_eq, List, [], ◌∷◌, map, find, Option, Some, None, is_some, refl, ap, sym, ◌∙◌, subst, true≢false}
use Rattle.std.specs.Option.{option_map}
use Rattle.std.specs.List.{list_any}
use Rattle.alt_base.proofs.Numbers.{true_eq}
use Rattle.conn_states.specs.Record.{Record}
use Rattle.conn_states.specs.Said.{said}
use Rattle.origin_values.specs.declared.address.Addr.{Addr}
use Rattle.origin_values.specs.declared.origin.Origin.{Origin}
use Rattle.route_events.specs.declared.route.Route.{Route}
use Rattle.route_events.specs.declared.connection.Connection.{Connection}
use Rattle.route_events.specs.Journal.{Journal}
use Rattle.route_events.specs.Requests.{standing, waits}
use Rattle.route_events.specs.Connections.{connections, is_open, open_connections, is_one_of, outstanding}
use Rattle.route_events.specs.Records.{ConnectionRecord, is_occupied}
use Rattle.route_events.specs.Authority.{record_of, is_authoritative}
use Rattle.route_events.specs.Dispatch.{carriers, free_carriers, first_of, best}
use Rattle.route_events.proofs.Lists.{IsIn, in_filter, filter_in, apart_filter, find_apart}
use Rattle.route_events.proofs.OutstandingInWords.{in_one_of}
use Rattle.route_events.proofs.Quiet.{best_in}
use Rattle.route_events.proofs.Settles.{open_where}
use Rattle.route_events.proofs.Sound.{Sound}
use Rattle.request_dispatch.specs.declared.choice.Choice.{Choice}
use Rattle.request_dispatch.specs.declared.choice.Choice.TheVariants.{Wait, Send, Refuse}
use Rattle.request_dispatch.specs.declared.tables.Tables.{Tables}
use Rattle.request_dispatch.specs.declared.waiting.Waiting.{Waiting}
use Rattle.request_dispatch.specs.ConnectionTable.{is_carrier, may_carry}
use Rattle.request_dispatch.specs.Carriers.{best_connection}
use Rattle.request_dispatch.specs.Looks.{Look}
use Rattle.request_dispatch.specs.Choices.{usable, by_usable, by_connection, choice}
use Rattle.request_dispatch.specs.AttemptTable.{is_awaited}
use Rattle.request_dispatch.proofs.Listing.{in_map}
use Rattle.router_core.specs.Holds.{Hold}
use Rattle.router_core.proofs.Choosing.{carrier_at, free_at, best_is}
use Rattle.router_core.proofs.Knowing.{Sees, known_at}

-- each connection of a number may carry a request of an origin
abbrev pub MayCarry : (Origin → Addr → Bool) → Origin → ℕ → ℕ → List Record → Type 0
MayCarry at o conn q cs = (c : Record) → IsIn c cs → nat_eq c.number conn ≡ true → may_carry at o q c ≡ true

-- what is chosen for a request may be done
abbrev pub MayDo : (Origin → Addr → Bool) → List Record → Waiting → Choice → Type 0
MayDo at cs w (Send conn stream used beside) = MayCarry at w.request.origin conn w.request.number cs
MayDo at cs w _ = Unit {0}

-- nothing is sent where no connection is chosen
no_route : (at : Origin → Addr → Bool) (cs : List Record) (w : Waiting) (b : Bool) → MayDo at cs w (cond b Wait Refuse)
no_route at cs w true = tt
no_route at cs w false = tt

nothing_sent : (look : Look) (t : Tables) (w : Waiting) (b : Bool) (first : Option Route) → MayDo look.is_address t.connections w (by_usable look.is_address t w b first)
nothing_sent look t w true first = tt
nothing_sent look t w false (Some r) = tt
nothing_sent look t w false None = no_route look.is_address t.connections w (list_any (is_carrier look.is_address w.request.origin) t.connections)

-- what a mapped list holds comes from the list
from_mapped : {X Y : Type 0} (f : X → Y) (y : Y) (xs : List X) → IsIn y (map f xs) → (x : X) × IsIn x xs × (y ≡ f x)
from_mapped f y [] h = absurd h
from_mapped f y (x ∷ xs) (inl same) = (x, inl refl, same)
from_mapped f y (x ∷ xs) (inr later) = let rest = from_mapped f y xs later in (rest.0, inr rest.1, rest.2)

one_of_none : (q : ℕ) (numbers : List ℕ) → (IsIn q numbers → ⊥) → is_one_of q numbers ≡ false
one_of_none q numbers h = by_test (is_one_of q numbers) refl
  where
    by_test : (b : Bool) → is_one_of q numbers ≡ b → b ≡ false
    by_test false e = refl
    by_test true e = absurd (h (in_one_of q numbers e))

-- a request that waits is outstanding nowhere
waits_nowhere : (j : Journal) (conn q : ℕ) → Sound j → waits (standing j q) ≡ true → is_one_of q (outstanding j conn) ≡ false
waits_nowhere j conn q sound waiting = one_of_none q (outstanding j conn) (λ out. true≢false (sym waiting ∙ ap waits (sound.out_stands conn q out)))

pub permitted : (look : Look) (t : Tables) (w : Waiting) (j : Journal) (now : ℕ) → Sound j → Sees look j now → Hold t j → waits (standing j w.request.number) ≡ true → MayDo look.is_address t.connections w (choice look t w)
permitted look t w j now sound sees hold waiting =
    by_best (best_connection look.is_address o t.connections) (best j o now (free_carriers j o now)) refl
    (ap (λ at. option_map said (best_connection at o t.connections)) sees.address_seen ∙ best_is t j now o sound hold)
  where
    o : Origin
    o = w.request.origin

    q : ℕ
    q = w.request.number

    -- one that may carry it is open
    opened : (x : Connection) → IsIn x (free_carriers j o now) → IsIn x (open_connections j)
    opened x found =
        let carrier = in_filter (λ (x : Connection). is_authoritative j x o now) x (connections j) (in_filter _ x (carriers j o now) found).0 in
        filter_in (is_open j) x (connections j) carrier.0 (open_where j now o x carrier.1)

    -- and says so of itself
    free_now : (x : Connection) → IsIn x (free_carriers j o now) → free_at (known_at j now) o (record_of j x) ≡ true
    free_now x found =
        let free = in_filter _ x (carriers j o now) found in
        let carrier = in_filter (λ (x : Connection). is_authoritative j x o now) x (connections j) free.0 in
        let may : Bool = carrier_at (known_at j now) o (record_of j x) in
        let may_now : may ≡ true = sym (ap (λ b. b && may) (open_where j now o x carrier.1)) ∙ carrier.1 in
        ap (λ b. b && not (is_occupied (record_of j x))) may_now ∙ free.1

    same_number : (x y : Connection) → IsIn x (open_connections j) → IsIn y (open_connections j) → x.number ≡ y.number → x ≡ y
    same_number x y here there same =
        let apart = apart_filter (λ (c : Connection). c.number) (is_open j) (connections j) sound.connections_apart in
        let first = find_apart (λ (c : Connection). c.number) (open_connections j) x apart here in
        let second = find_apart (λ (c : Connection). c.number) (open_connections j) y apart there in
        some_is x y (sym first ∙ ap (λ n. find (λ (c : Connection). nat_eq c.number n) (open_connections j)) same ∙ second)
      where
        some_is : (x y : Connection) → Some x ≡ Some y → x ≡ y
        some_is x y e = cc

    carried : (x : Connection) → IsIn x (free_carriers j o now) → (c : Record) → IsIn c t.connections → nat_eq c.number x.number ≡ true → may_carry look.is_address o q c ≡ true
    carried x free c found same =
        let there = from_mapped (record_of j) (said c) (open_connections j) (subst (IsIn (said c)) hold.connections (in_map said c t.connections found)) in
        let numbers : c.number ≡ there.0.number = ap (λ (r : ConnectionRecord). r.made.number) there.2 in
        let one : there.0 ≡ x = same_number there.0 x there.1 (opened x free) (sym numbers ∙ true_eq c.number x.number same) in
        let says : said c ≡ record_of j x = there.2 ∙ ap (record_of j) one in
        (λ i. free_at (sees.address_seen i) o (says i) && not (is_one_of q (says i).outstanding))
        ∙ ap (λ b. b && not (is_one_of q (outstanding j x.number))) (free_now x free)
        ∙ ap not (waits_nowhere j x.number q sound waiting)

    by_best : (v : Option Record) (free : Option Connection) → best j o now (free_carriers j o now) ≡ free → option_map said v ≡ option_map (record_of j) free → MayDo look.is_address t.connections w (by_connection look t w v)
    by_best None free is e = nothing_sent look t w (list_any (is_awaited t.attempts o) (usable look w)) (first_of (usable look w))
    by_best (Some k) None is e = absurd (true≢false (ap is_some e))
    by_best (Some k) (Some x) is e = λ c found same. carried x (best_in j o now x (free_carriers j o now) is) c found (rw (sym (number_is k x e)) same)
      where
        number_is : (k : Record) (x : Connection) → Some (said k) ≡ Some (record_of j x) → k.number ≡ x.number
        number_is k x e = ap (λ (r : ConnectionRecord). r.made.number) (some_same (said k) (record_of j x) e)
          where
            some_same : (x y : ConnectionRecord) → Some x ≡ Some y → x ≡ y
            some_same x y e = cc
