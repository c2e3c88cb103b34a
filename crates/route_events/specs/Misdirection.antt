-- A server that isn't the origin's says so by status 421 (RFC 9110 15.5.20), and what that takes away.
use Rattle.std.specs.Prelude.{ℕ, Bool, false, not, ◌&&◌, ◌||◌, nat_eq, [], ◌∷◌, Option, Some, None, if◌then◌else◌}
use Rattle.std.specs.Option.{option_map_or}
use Rattle.std.specs.List.{list_any}
use Rattle.altsvc_grammar.specs.Keys.{key_eq}
use Rattle.altsvc_grammar.specs.declared.alt_key.AltKey.{AltKey}
use Rattle.origin_values.specs.Equality.{origin_eq}
use Rattle.origin_values.specs.declared.origin.Origin.{Origin}
use Rattle.route_events.specs.declared.fact.Fact.{Fact}
use Rattle.route_events.specs.declared.fact.Fact.TheVariants as fact
use Rattle.route_events.specs.declared.route.Route.{Route}
use Rattle.route_events.specs.declared.route.Route.TheVariants as route
use Rattle.route_events.specs.declared.request.Request.{Request}
use Rattle.route_events.specs.declared.connection.Connection.{Connection}
use Rattle.route_events.specs.Journal.{Happened, Cut, Taken, Journal}
use Rattle.route_events.specs.Requests.{request_of}
use Rattle.route_events.specs.OriginSets.{lists}
use Rattle.route_events.specs.Connections.{open_connections, is_one_of, outstanding}

-- the request that a fact turns away: its response has the status 421
abbrev pub turned_away_in : Fact → Option ℕ
turned_away_in (fact.Response request status age altsvc) = if nat_eq status 421 then Some request else None
turned_away_in _ = None

-- the request of a number is one for an origin
abbrev pub asks_for : Journal → Origin → ℕ → Bool
asks_for journal o number = option_map_or (λ (q : Request). origin_eq q.origin o) (request_of journal number) false

-- a fact turns away a request for an origin that was outstanding on the connection of a number
abbrev pub turns_away : Journal → ℕ → Origin → Fact → Bool
turns_away older conn o fact = option_map_or (λ number. is_one_of number (outstanding older conn) && asks_for older o number) (turned_away_in fact) false

-- a connection is misdirected for an origin: since it opened, a 421 came on it for a request of the origin, and since then
-- no ORIGIN frame that lists the origin was accepted on it (RFC 8336 2.3)
abbrev pub is_misdirected : Journal → Connection → Origin → Bool
is_misdirected [] c o = false
is_misdirected (Happened moment (fact.Opened attempt proto addr port names) handed_in ∷ older) c o = not (nat_eq attempt c.number) && is_misdirected older c o
is_misdirected (Happened moment (fact.Delivered conn head payload) handed_in ∷ older) c o =
    not (lists c o (fact.Delivered conn head payload)) && is_misdirected older c o
is_misdirected (Happened moment fact handed_in ∷ older) c o = turns_away older c.number o fact || is_misdirected older c o
is_misdirected (Cut moment conn length ∷ older) c o = is_misdirected older c o
is_misdirected (Taken action ∷ older) c o = is_misdirected older c o

-- a connection was opened for an origin by an alternative
abbrev pub is_route_by : AltKey → Route → Bool
is_route_by key route.Direct = false
is_route_by key (route.Alt own) = key_eq key own
is_route_by key (route.Rec endpoint) = false

abbrev pub was_opened_by : Origin → AltKey → Connection → Bool
was_opened_by o key c = origin_eq c.origin o && is_route_by key c.route

-- a fact gives up an alternative of an origin: it turns a request for the origin away, on a connection that was opened for
-- the origin by the alternative
abbrev pub gives_up : Journal → Origin → Fact → AltKey → Bool
gives_up older o fact key = list_any (λ (c : Connection). was_opened_by o key c && turns_away older c.number o fact) (open_connections older)
