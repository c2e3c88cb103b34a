-- What a router chooses is what dispatch decides.
use Rattle.std.proofs.Common.{◌≡◌, ℕ, ◌+◌, Bool, true, false, cond, not, ◌&&◌, ◌||◌, nat_eq, List, [], ◌∷◌, ◌++◌, map, filter, find, Option, Some, None, is_some, refl, ap, sym, ◌∙◌, true≢false}
use Rattle.std.specs.Option.{option_map, option_and_then}
use Rattle.std.specs.List.{list_any}
use Rattle.origin_values.specs.Equality.{origin_eq}
use Rattle.origin_values.specs.declared.address.Addr.{Addr}
use Rattle.origin_values.specs.declared.origin.Origin.{Origin}
use Rattle.route_choice.specs.Candidates.{is_by_alt, is_basis, best_of, number_of}
use Rattle.route_choice.specs.Usable.{is_listed}
use Rattle.route_choice.specs.declared.candidate.BasisKind.{BasisKind}
use Rattle.route_choice.specs.declared.candidate.BasisKind.TheVariants.{ByAlt, ByOther, Without}
use Rattle.route_choice.specs.declared.candidate.Candidate.{Candidate}
use Rattle.route_events.specs.declared.action.Action.{Action}
use Rattle.route_events.specs.declared.action.Action.TheVariants.{OpenTo, SendOn}
use Rattle.route_events.specs.declared.route.Route.{Route}
use Rattle.route_events.specs.declared.route.Route.TheVariants.{Direct, Rec}
use Rattle.route_events.specs.declared.connection.Connection.{Connection}
use Rattle.route_events.specs.Journal.{Journal}
use Rattle.route_events.specs.Connections.{connections, is_open, open_connections}
use Rattle.route_events.specs.Alternatives.{live}
use Rattle.route_events.specs.Records.{ConnectionRecord, is_occupied}
use Rattle.route_events.specs.Authority.{route_eq, rests_on, authorises, record_of, is_authoritative, has_basis}
use Rattle.route_events.specs.Backoff.{is_on, is_broken}
use Rattle.route_events.specs.Routes.{by_alternatives, routes, was_tried, is_usable, usable_routes, has_pending}
use Rattle.route_events.specs.Dispatch.{carriers, free_carriers, first_of, or_else, is_by_alternative, best, stream_after, alt_used, opening, opened_beside, is_in_use as journal_in_use, first_alternative, decide, dispatch}
use Rattle.route_events.proofs.Lists.{IsIn, in_filter, filter_in, filter_same, filter_twice, apart_filter, find_apart}
use Rattle.route_events.proofs.Quiet.{is_none_left, best_in}
use Rattle.route_events.proofs.Settles.{open_where}
use Rattle.route_events.proofs.Sound.{Sound}
use Rattle.request_dispatch.specs.declared.choice.Choice.TheVariants.{Wait, Refuse}
use Rattle.conn_states.specs.Record.{Record}
use Rattle.conn_states.specs.Said.{said}
use Rattle.request_dispatch.specs.declared.tables.Tables.{Tables}
use Rattle.request_dispatch.specs.declared.waiting.Waiting.{Waiting}
use Rattle.request_dispatch.specs.AttemptTable.{is_awaited}
use Rattle.request_dispatch.specs.ConnectionTable.{connection_among, is_carrier, is_free, is_opened_by}
use Rattle.request_dispatch.specs.Carriers.{candidates, best_connection}
use Rattle.request_dispatch.specs.Looks.{Look, reach_at}
use Rattle.request_dispatch.specs.Choices.{routes_to, may_take, usable, is_in_use, unless_in_use, beside, by_usable, otherwise, by_connection, choice, starting, actions_of}
use Rattle.request_dispatch.proofs.Listing.{filter_map, first_map, any_filter, none_left_map, any_map, find_map, find_same, or_else_map, map_twice}
use Rattle.router_core.specs.Holds.{Hold}
use Rattle.router_core.proofs.Knowing.{Sees, known_at}

-- the questions of a connection, as questions of its record

abbrev pub carrier_at : (Origin → Addr → Bool) → Origin → ConnectionRecord → Bool
carrier_at at o r = authorises r o (reach_at at r.made o)

abbrev pub free_at : (Origin → Addr → Bool) → Origin → ConnectionRecord → Bool
free_at at o r = carrier_at at o r && not (is_occupied r)

abbrev pub candidate_at : Origin → ConnectionRecord → Candidate
candidate_at o r = record { conn = r.made.number; basis = cond (rests_on r o) (cond (is_by_alternative r.made.route) ByAlt ByOther) Without }

pub carriers_are : (j : Journal) (now : ℕ) (o : Origin) → map (record_of j) (carriers j o now) ≡ filter (carrier_at (known_at j now) o) (map (record_of j) (open_connections j))
carriers_are j now o =
    ap (map (record_of j)) (sym (filter_twice (λ c. carrier_at (known_at j now) o (record_of j c)) (is_open j) (connections j)))
    ∙ sym (filter_map (carrier_at (known_at j now) o) (record_of j) (open_connections j))

free_are : (j : Journal) (now : ℕ) (o : Origin) → map (record_of j) (free_carriers j o now) ≡ filter (free_at (known_at j now) o) (map (record_of j) (open_connections j))
free_are j now o =
    sym (filter_map (λ r. not (is_occupied r)) (record_of j) (carriers j o now))
    ∙ ap (filter (λ r. not (is_occupied r))) (carriers_are j now o)
    ∙ filter_twice (λ r. not (is_occupied r)) (carrier_at (known_at j now) o) (map (record_of j) (open_connections j))

-- the candidates of a table are the free carriers of the journal
candidates_are : (t : Tables) (j : Journal) (now : ℕ) (o : Origin) → Hold t j → candidates (known_at j now) o t.connections ≡ map (λ c. candidate_at o (record_of j c)) (free_carriers j o now)
candidates_are t j now o hold =
    sym (map_twice (candidate_at o) said (filter (is_free (known_at j now) o) t.connections))
    ∙ ap (map (candidate_at o)) (sym (filter_map (free_at (known_at j now) o) said t.connections) ∙ ap (filter (free_at (known_at j now) o)) hold.connections ∙ sym (free_are j now o))
    ∙ map_twice (candidate_at o) (record_of j) (free_carriers j o now)

-- the best candidate is the best of those that may carry a request

by_alt_is : (b a : Bool) → is_by_alt (cond b (cond a ByAlt ByOther) Without) ≡ (b && a)
by_alt_is true true = refl
by_alt_is true false = refl
by_alt_is false a = refl

basis_is : (b a : Bool) → is_basis (cond b (cond a ByAlt ByOther) Without) ≡ b
basis_is true true = refl
basis_is true false = refl
basis_is false a = refl

passed : (j : Journal) (o : Origin) (p : BasisKind → Bool) (q : Connection → Bool) (cs : List Connection) → ((c : Connection) → p (candidate_at o (record_of j c)).basis ≡ q c) →
    first_of (filter (λ (x : Candidate). p x.basis) (map (λ c. candidate_at o (record_of j c)) cs)) ≡ option_map (λ c. candidate_at o (record_of j c)) (first_of (filter q cs))
passed j o p q cs h =
    ap first_of (filter_map (λ (x : Candidate). p x.basis) (λ c. candidate_at o (record_of j c)) cs ∙ ap (map (λ c. candidate_at o (record_of j c))) (filter_same (λ c. p (candidate_at o (record_of j c)).basis) q cs h))
    ∙ first_map (λ c. candidate_at o (record_of j c)) (filter q cs)

best_candidate : (j : Journal) (now : ℕ) (o : Origin) (cs : List Connection) → best_of (map (λ c. candidate_at o (record_of j c)) cs) ≡ option_map (λ c. candidate_at o (record_of j c)) (best j o now cs)
best_candidate j now o cs =
    (λ i. or_else (passed j o is_by_alt (λ c. has_basis j c o now && is_by_alternative c.route) cs (λ c. by_alt_is (rests_on (record_of j c) o) (is_by_alternative c.route)) i)
    (or_else (passed j o is_basis (λ c. has_basis j c o now) cs (λ c. basis_is (rests_on (record_of j c) o) (is_by_alternative c.route)) i) (first_map f cs i)))
    ∙ ap (or_else (option_map f (first_of (filter (λ c. has_basis j c o now && is_by_alternative c.route) cs)))) (or_else_map f (first_of (filter (λ c. has_basis j c o now) cs)) (first_of cs))
    ∙ or_else_map f (first_of (filter (λ c. has_basis j c o now && is_by_alternative c.route) cs)) (or_else (first_of (filter (λ c. has_basis j c o now) cs)) (first_of cs))
  where
    f : Connection → Candidate
    f c = candidate_at o (record_of j c)

-- the connection of a number says what the journal says of it
pub among_is : (t : Tables) (j : Journal) (n : ℕ) → Hold t j → option_map said (connection_among t.connections n) ≡ option_map (record_of j) (find (λ (c : Connection). nat_eq c.number n) (open_connections j))
among_is t j n hold =
    sym (find_map (λ (r : ConnectionRecord). nat_eq r.made.number n) said t.connections)
    ∙ ap (find (λ (r : ConnectionRecord). nat_eq r.made.number n)) hold.connections
    ∙ find_map (λ (r : ConnectionRecord). nat_eq r.made.number n) (record_of j) (open_connections j)

pub best_is : (t : Tables) (j : Journal) (now : ℕ) (o : Origin) → Sound j → Hold t j → option_map said (best_connection (known_at j now) o t.connections) ≡ option_map (record_of j) (best j o now (free_carriers j o now))
best_is t j now o sound hold =
    ap (λ v. option_map said (option_and_then (connection_among t.connections) (number_of v))) (ap best_of (candidates_are t j now o hold) ∙ best_candidate j now o (free_carriers j o now))
    ∙ by_best (best j o now (free_carriers j o now)) refl
  where
    opened : (c : Connection) → IsIn c (free_carriers j o now) → IsIn c (open_connections j)
    opened c found =
        let carrier = in_filter (λ (c : Connection). is_authoritative j c o now) c (connections j) (in_filter _ c (carriers j o now) found).0 in
        filter_in (is_open j) c (connections j) carrier.0 (open_where j now o c carrier.1)

    by_best : (v : Option Connection) → best j o now (free_carriers j o now) ≡ v →
        option_map said (option_and_then (connection_among t.connections) (number_of (option_map (λ c. candidate_at o (record_of j c)) v))) ≡ option_map (record_of j) v
    by_best None e = refl
    by_best (Some c) e =
        among_is t j c.number hold
        ∙ ap (option_map (record_of j)) (find_apart (λ (c : Connection). c.number) (open_connections j) c (apart_filter (λ (c : Connection). c.number) (is_open j) (connections j) sound.connections_apart) (opened c (best_in j o now c (free_carriers j o now) e)))

carried_is : (t : Tables) (j : Journal) (now : ℕ) (o : Origin) → Hold t j → list_any (is_carrier (known_at j now) o) t.connections ≡ not (is_none_left (carriers j o now))
carried_is t j now o hold =
    sym (any_map (carrier_at (known_at j now) o) said t.connections)
    ∙ ap (list_any (carrier_at (known_at j now) o)) hold.connections
    ∙ any_filter (carrier_at (known_at j now) o) (map (record_of j) (open_connections j))
    ∙ ap (λ ks. not (is_none_left ks)) (sym (carriers_are j now o))
    ∙ ap not (none_left_map (record_of j) (carriers j o now))

-- routes

routes_are : (look : Look) (j : Journal) (now : ℕ) (o : Origin) → Sees look j now → routes_to look o ≡ routes j o now
routes_are look j now o sees =
    ap (λ alts. by_alternatives alts ++ map Rec (look.endpoints o) ++ Direct ∷ []) (sees.live_seen o)
    ∙ ap (λ found. by_alternatives (live j o now) ++ map Rec found ++ Direct ∷ []) (sees.endpoints_seen o)

usable_are : (look : Look) (w : Waiting) (j : Journal) (now : ℕ) → Sees look j now → ((r : Route) → is_listed w.tried r ≡ was_tried j w.request r) → usable look w ≡ usable_routes j w.request now
usable_are look w j now sees tried =
    ap (filter (may_take look w)) (routes_are look j now w.request.origin sees)
    ∙ filter_same (may_take look w) (λ r. is_usable j w.request r now) (routes j w.request.origin now) (λ r. λ i. not (sees.broken_seen w.request.origin r i) && not (tried r i))

awaited_is : (t : Tables) (j : Journal) (o : Origin) (r : Route) → Hold t j → is_awaited t.attempts o r ≡ has_pending j o r
awaited_is t j o r hold = ap (list_any (is_on o r)) hold.pending

in_use_is : (t : Tables) (j : Journal) (o : Origin) (r : Route) → Hold t j → is_in_use t o r ≡ journal_in_use j o r
in_use_is t j o r hold = λ i. opened i || awaited_is t j o r hold i
  where
    is_by : ConnectionRecord → Bool
    is_by k = origin_eq k.made.origin o && route_eq k.made.route r

    opened : list_any (is_opened_by o r) t.connections ≡ list_any (λ (c : Connection). origin_eq c.origin o && route_eq c.route r) (open_connections j)
    opened = sym (any_map is_by said t.connections) ∙ ap (list_any is_by) hold.connections ∙ any_map is_by (record_of j) (open_connections j)

beside_is : (look : Look) (t : Tables) (w : Waiting) (j : Journal) (now : ℕ) → Sees look j now → Hold t j → starting t w (beside look t w.request.origin) ≡ opened_beside j w.request.origin (first_alternative j w.request.origin now)
beside_is look t w j now sees hold = ap (λ v. starting t w (unless_in_use t o v)) found ∙ by_route (first_alternative j o now)
  where
    o : Origin
    o = w.request.origin

    found : find (λ r. not (look.is_broken o r)) (by_alternatives (look.live o)) ≡ first_alternative j o now
    found = ap (λ alts. find (λ r. not (look.is_broken o r)) (by_alternatives alts)) (sees.live_seen o)
        ∙ find_same (λ r. not (look.is_broken o r)) (λ r. not (is_broken j o r now)) (by_alternatives (live j o now)) (λ r. ap not (sees.broken_seen o r))

    by_use : (r : Route) (b : Bool) → starting t w (cond b None (Some r)) ≡ cond b [] (opening j o r ∷ [])
    by_use r true = refl
    by_use r false = ap (λ n. OpenTo (n + 1) o r ∷ []) hold.opened

    by_route : (v : Option Route) → starting t w (unless_in_use t o v) ≡ opened_beside j o v
    by_route None = refl
    by_route (Some r) = ap (λ b. starting t w (cond b None (Some r))) (in_use_is t j o r hold) ∙ by_use r (journal_in_use j o r)

-- where no connection is free
otherwise_is : (look : Look) (t : Tables) (w : Waiting) (j : Journal) (now : ℕ) (beside : Option Route) → Sees look j now → Hold t j → ((r : Route) → is_listed w.tried r ≡ was_tried j w.request r) →
    actions_of t w (otherwise look t w) ≡ decide j w.request now beside None (list_any (has_pending j w.request.origin) (usable_routes j w.request now)) (usable_routes j w.request now) (carriers j w.request.origin now)
otherwise_is look t w j now beside sees hold tried =
    (λ i. actions_of t w (by_usable (sees.address_seen i) t w (list_any (λ r. awaited_is t j w.request.origin r hold i) (usable_are look w j now sees tried i)) (first_of (usable_are look w j now sees tried i))))
    ∙ by_pending (list_any (has_pending j w.request.origin) (usable_routes j w.request now)) (usable_routes j w.request now) (carriers j w.request.origin now) (carried_is t j now w.request.origin hold)
  where
    by_carriers : (b : Bool) (cs : List Connection) → b ≡ not (is_none_left cs) → actions_of t w (cond b Wait Refuse) ≡ decide j w.request now beside None false [] cs
    by_carriers b [] e = ap (λ b. actions_of t w (cond b Wait Refuse)) e
    by_carriers b (c ∷ cs) e = ap (λ b. actions_of t w (cond b Wait Refuse)) e

    by_pending : (b : Bool) (rs : List Route) (cs : List Connection) → list_any (is_carrier (known_at j now) w.request.origin) t.connections ≡ not (is_none_left cs) →
        actions_of t w (by_usable (known_at j now) t w b (first_of rs)) ≡ decide j w.request now beside None b rs cs
    by_pending true rs cs e = refl
    by_pending false (r ∷ rs) cs e = ap (λ n. OpenTo (n + 1) w.request.origin r ∷ []) hold.opened
    by_pending false [] cs e = by_carriers (list_any (is_carrier (known_at j now) w.request.origin) t.connections) cs e

some_same : {X : Type 0} (x y : X) → Some x ≡ Some y → x ≡ y
some_same x y e = cc

pub choice_is : (look : Look) (t : Tables) (w : Waiting) (j : Journal) (now : ℕ) → Sound j → Sees look j now → Hold t j → ((r : Route) → is_listed w.tried r ≡ was_tried j w.request r) → actions_of t w (choice look t w) ≡ dispatch j w.request now
choice_is look t w j now sound sees hold tried =
    by_best (best_connection look.is_address w.request.origin t.connections) (best j w.request.origin now (free_carriers j w.request.origin now))
    (ap (λ at. option_map said (best_connection at w.request.origin t.connections)) sees.address_seen ∙ best_is t j now w.request.origin sound hold)
  where
    sending : ConnectionRecord → List Action → List Action
    sending r as' = SendOn w.request.number r.made.number (stream_after r.made.proto r.sends) (alt_used (rests_on r w.request.origin) r.made.route w.request.origin) ∷ as'

    by_best : (v : Option Record) (free : Option Connection) → option_map said v ≡ option_map (record_of j) free →
        actions_of t w (by_connection look t w v) ≡ decide j w.request now (first_alternative j w.request.origin now) free (list_any (has_pending j w.request.origin) (usable_routes j w.request now)) (usable_routes j w.request now) (carriers j w.request.origin now)
    by_best None None e = otherwise_is look t w j now (first_alternative j w.request.origin now) sees hold tried
    by_best None (Some c) e = absurd (true≢false (sym (ap is_some e)))
    by_best (Some k) None e = absurd (true≢false (ap is_some e))
    by_best (Some k) (Some c) e = λ i. sending (some_same (said k) (record_of j c) e i) (beside_is look t w j now sees hold i)
