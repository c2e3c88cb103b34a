-- The alternative that a response of status 421 gives up is the same by what a router keeps and by the journal.
use Rattle.std.proofs.Common.{◌≡◌, inl, inr, ℕ, Bool, true, false, cond, ◌&&◌, ◌||◌, nat_eq, List, [], ◌∷◌, find, Option, Some, None, is_some, refl, ap, sym, ◌∙◌, true≢false}
use Rattle.std.specs.Option.{option_map, option_map_or, option_and_then}
use Rattle.std.specs.List.{list_any}
use Rattle.std.proofs.lemmas.Bool.{and_left, and_right, or_from}
use Rattle.alt_base.proofs.Booleans.{contradicts}
use Rattle.alt_base.proofs.Numbers.{eq_self}
use Rattle.altsvc_grammar.specs.Keys.{key_eq}
use Rattle.altsvc_grammar.specs.declared.alt_key.AltKey.{AltKey}
use Rattle.origin_values.specs.Equality.{origin_eq}
use Rattle.origin_values.specs.declared.origin.Origin.{Origin}
use Rattle.origin_values.proofs.Equal.{true_origin, origin_self}
use Rattle.network_cache.proofs.Origins.{turned_not}
use Rattle.route_events.specs.declared.fact.Fact.TheVariants.{Response}
use Rattle.route_events.specs.declared.route.Route.{Route}
use Rattle.route_events.specs.declared.route.Route.TheVariants.{Direct, Alt, Rec}
use Rattle.route_events.specs.declared.request.Request.{Request}
use Rattle.route_events.specs.declared.connection.Connection.{Connection}
use Rattle.route_events.specs.Journal.{Journal}
use Rattle.route_events.specs.Requests.{Standing, OutOn, standing, is_out}
use Rattle.route_events.specs.Connections.{is_open, connections, open_connections, is_one_of, outstanding}
use Rattle.route_events.specs.Misdirection.{asks_for, is_route_by, was_opened_by, gives_up}
use Rattle.route_events.specs.Records.{ConnectionRecord}
use Rattle.route_events.specs.Authority.{record_of}
use Rattle.route_events.proofs.Lists.{IsIn, AreApart, apart_filter}
use Rattle.route_events.proofs.OutstandingInWords.{in_one_of}
use Rattle.route_events.proofs.Sound.{Sound}
use Rattle.conn_states.specs.Record.{Record}
use Rattle.conn_states.specs.Said.{said}
use Rattle.request_dispatch.specs.declared.outstanding.Outstanding.{Outstanding}
use Rattle.request_dispatch.specs.declared.tables.Tables.{Tables}
use Rattle.request_dispatch.specs.RequestTable.{request_among}
use Rattle.request_dispatch.specs.ConnectionTable.{carrying}
use Rattle.request_dispatch.proofs.Listing.{find_map}
use Rattle.router_core.specs.Holds.{Hold, AreOut}
use Rattle.router_core.specs.Notes.{key_of, given_up_on, given_up}

-- it is this alternative of this origin
abbrev pub is_given : Option (Origin × AltKey) → Origin → AltKey → Bool
is_given None o key = false
is_given (Some g) o key = origin_eq o g.0 && key_eq key g.1

-- where no connection passes a test
none_pass : (w p : Connection → Bool) (b : Bool) (cs : List Connection) → ((c : Connection) → IsIn c cs → p c ≡ false) → list_any (λ c. w c && (p c && b)) cs ≡ false
none_pass w p b [] h = refl
none_pass w p b (c ∷ cs) h = or_from _ _ (and_right (w c) (p c && b) (and_left (p c) b (h c (inl refl)))) (none_pass w p b cs (λ d found. h d (inr found)))

-- where at most one connection passes a test, the first one decides
one_passes :
    (w p : Connection → Bool) (b : Bool) (cs : List Connection) → ((c d : Connection) → p c ≡ true → p d ≡ true → c.number ≡ d.number) → AreApart (λ (c : Connection). c.number) cs →
    list_any (λ c. w c && (p c && b)) cs ≡ option_map_or (λ c. w c && b) (find p cs) false
one_passes w p b [] same apart = refl
one_passes w p b (c ∷ cs) same apart = by_test (p c) refl (one_passes w p b cs same apart.1)
  where
    others : p c ≡ true → (d : Connection) → IsIn d cs → p d ≡ false
    others here d found = by_other (p d) refl
      where
        by_other : (t : Bool) → p d ≡ t → t ≡ false
        by_other false e = refl
        by_other true e = contradicts (nat_eq c.number d.number) (ap (nat_eq c.number) (sym (same c d here e)) ∙ eq_self c.number) (apart.0 d found)

    alone : (a : Bool) → (a || false) ≡ a
    alone true = refl
    alone false = refl

    by_test : (t : Bool) → p c ≡ t → list_any (λ d. w d && (p d && b)) cs ≡ option_map_or (λ d. w d && b) (find p cs) false →
        ((w c && (t && b)) || list_any (λ d. w d && (p d && b)) cs) ≡ option_map_or (λ d. w d && b) (cond t (Some c) (find p cs)) false
    by_test true e rest = ap (λ a. (w c && b) || a) (none_pass w p b cs (others e)) ∙ alone (w c && b)
    by_test false e rest = ap (λ a. a || list_any (λ d. w d && (p d && b)) cs) (and_right (w c) false refl) ∙ rest

-- the alternative that a connection of an origin was opened by: none by another route
led_by_none : (mine asked o : Origin) (key : AltKey) → is_given (cond (origin_eq mine asked) None None) o key ≡ ((origin_eq mine o && false) && origin_eq asked o)
led_by_none mine asked o key = nothing (origin_eq mine asked) ∙ sym (and_left (origin_eq mine o && false) (origin_eq asked o) (and_right (origin_eq mine o) false refl))
  where
    nothing : (b : Bool) → is_given (cond b None None) o key ≡ false
    nothing true = refl
    nothing false = refl

led_is : (mine asked o : Origin) (key : AltKey) (route : Route) → is_given (cond (origin_eq mine asked) (key_of asked route) None) o key ≡ ((origin_eq mine o && is_route_by key route) && origin_eq asked o)
led_is mine asked o key Direct = led_by_none mine asked o key
led_is mine asked o key (Rec endpoint) = led_by_none mine asked o key
led_is mine asked o key (Alt own) = by_asked (origin_eq asked o) refl
  where
    k : Bool
    k = key_eq key own

    by_asked : (b : Bool) → origin_eq asked o ≡ b → is_given (cond (origin_eq mine asked) (Some (asked, own)) None) o key ≡ ((origin_eq mine o && k) && b)
    by_asked true e =
        ap (λ (q : Origin). is_given (cond (origin_eq mine q) (Some (q, own)) None) o key) (true_origin asked o e)
        ∙ by_mine (origin_eq mine o)
      where
        by_mine : (a : Bool) → is_given (cond a (Some (o, own)) None) o key ≡ ((a && k) && true)
        by_mine true = ap (λ c. c && k) (origin_self o) ∙ all k
          where
            all : (c : Bool) → c ≡ (c && true)
            all true = refl
            all false = refl
        by_mine false = refl
    by_asked false e = by_mine (origin_eq mine asked) ∙ sym (and_right (origin_eq mine o && k) false refl)
      where
        by_mine : (a : Bool) → is_given (cond a (Some (asked, own)) None) o key ≡ false
        by_mine true = and_left (origin_eq o asked) k (turned_not asked o e)
        by_mine false = refl

pub given_up_is : (t : Tables) (j : Journal) (request status age : ℕ) (altsvc : Option (List ℕ)) (o : Origin) (key : AltKey) → Sound j → Hold t j → AreOut j t.requests.outstanding → is_out (standing j request) ≡ true →
    is_given (given_up t (Response request status age altsvc)) o key ≡ gives_up j o (Response request status age altsvc) key
given_up_is t j request status age altsvc o key sound hold outs out = by_back (nat_eq status 421)
  where
    p : Connection → Bool
    p c = is_one_of request (outstanding j c.number)

    w : Connection → Bool
    w c = was_opened_by o key c

    conn_of : Option Standing → ℕ
    conn_of (Some (OutOn n)) = n
    conn_of _ = 0

    same : (c d : Connection) → p c ≡ true → p d ≡ true → c.number ≡ d.number
    same c d here there =
        ap conn_of (sym (sound.out_stands c.number request (in_one_of request (outstanding j c.number) here)) ∙ sound.out_stands d.number request (in_one_of request (outstanding j d.number) there))

    apart : AreApart (λ (c : Connection). c.number) (open_connections j)
    apart = apart_filter (λ (c : Connection). c.number) (is_open j) (connections j) sound.connections_apart

    asks : ConnectionRecord → Bool
    asks r = is_one_of request r.outstanding

    carried : option_map said (carrying t.connections request) ≡ option_map (record_of j) (find p (open_connections j))
    carried = sym (find_map asks said t.connections) ∙ ap (find asks) hold.connections ∙ find_map asks (record_of j) (open_connections j)

    by_record : Bool → ConnectionRecord → Bool
    by_record b r = was_opened_by o key r.made && b

    kept_by : (x : Outstanding) (v : Option Record) → is_given (given_up_on (Some x) v) o key ≡ option_map_or (by_record (origin_eq x.request.origin o)) (option_map said v) false
    kept_by x None = refl
    kept_by x (Some c) = led_is c.made.origin x.request.origin o key c.made.route

    of_records : (b : Bool) (v : Option Connection) → option_map_or (by_record b) (option_map (record_of j) v) false ≡ option_map_or (λ c. w c && b) v false
    of_records b None = refl
    of_records b (Some c) = refl

    by_found : (v : Option Outstanding) → request_among t.requests.outstanding request ≡ v → is_some v ≡ true →
        is_given (given_up_on v (carrying t.connections request)) o key ≡ list_any (λ c. w c && (p c && asks_for j o request)) (open_connections j)
    by_found None e some = absurd (true≢false (sym some))
    by_found (Some x) e some =
        let b : Bool = origin_eq x.request.origin o in
        kept_by x (carrying t.connections request)
        ∙ ap (λ v. option_map_or (by_record b) v false) carried
        ∙ of_records b (find p (open_connections j))
        ∙ sym (one_passes w p b (open_connections j) same apart)
        ∙ ap (λ v. list_any (λ c. w c && (p c && option_map_or (λ (q : Request). origin_eq q.origin o) v false)) (open_connections j)) (sym (outs.known request x e).request)

    by_back : (b : Bool) →
        is_given (option_and_then (λ number. given_up_on (request_among t.requests.outstanding number) (carrying t.connections number)) (cond b (Some request) None)) o key
        ≡ list_any (λ c. w c && option_map_or (λ number. is_one_of number (outstanding j c.number) && asks_for j o number) (cond b (Some request) None) false) (open_connections j)
    by_back false = sym (none_pass w (λ c. false) false (open_connections j) (λ c found. refl))
    by_back true = by_found (request_among t.requests.outstanding request) refl (outs.out request ∙ out)
