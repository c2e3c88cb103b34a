-- Where a waiting request goes.
use Rattle.std.specs.Prelude.{ℕ, ◌+◌, ◌*◌, Bool, true, false, not, ◌&&◌, ◌||◌, List, [], ◌∷◌, Option, Some, None, if◌then◌else◌, filter, find}
use Rattle.std.specs.List.{list_any}
use Rattle.origin_values.specs.Equality.{origin_eq}
use Rattle.origin_values.specs.declared.host.Host.{Host}
use Rattle.origin_values.specs.declared.origin.Origin.{Origin}
use Rattle.origin_values.specs.declared.proto.Proto.{Proto}
use Rattle.origin_values.specs.declared.proto.Proto.TheVariants.{H2, H3, Http11, Other}
use Rattle.route_events.specs.declared.action.Action.{Action}
use Rattle.route_events.specs.declared.action.Action.TheVariants as action
use Rattle.route_events.specs.declared.route.Route.{Route}
use Rattle.route_events.specs.declared.route.Route.TheVariants.{Direct, Alt, Rec}
use Rattle.route_events.specs.declared.connection.Connection.{Connection}
use Rattle.route_events.specs.declared.request.Request.{Request}
use Rattle.route_events.specs.Journal.{Journal}
use Rattle.route_events.specs.Attempts.{next_attempt}
use Rattle.route_events.specs.Connections.{connections, open_connections, send_count, is_busy}
use Rattle.route_events.specs.Alternatives.{live}
use Rattle.route_events.specs.Authority.{route_eq, is_authoritative, has_basis}
use Rattle.route_events.specs.Backoff.{is_broken}
use Rattle.route_events.specs.Routes.{by_alternatives, usable_routes, has_pending}

-- the connections that are authoritative for an origin, in the order of their opening, and those that aren't busy
abbrev pub carriers : Journal → Origin → ℕ → List Connection
carriers journal o now = filter (λ c. is_authoritative journal c o now) (connections journal)

abbrev pub free_carriers : Journal → Origin → ℕ → List Connection
free_carriers journal o now = filter (λ c. not (is_busy journal c)) (carriers journal o now)

abbrev pub first_of : {X : Type 0} → List X → Option X
first_of [] = None
first_of (x ∷ xs) = Some x

abbrev pub or_else : {X : Type 0} → Option X → Option X → Option X
or_else None other = other
or_else (Some x) other = Some x

abbrev pub is_by_alternative : Route → Bool
is_by_alternative Direct = false
is_by_alternative (Alt key) = true
is_by_alternative (Rec endpoint) = false

-- the best of some connections: one with a basis by an alternative, else one with another basis, else any; among
-- equals the one that was opened earliest
abbrev pub best : Journal → Origin → ℕ → List Connection → Option Connection
best journal o now cs =
    or_else (first_of (filter (λ (c : Connection). has_basis journal c o now && is_by_alternative c.route) cs))
    (or_else (first_of (filter (λ (c : Connection). has_basis journal c o now) cs)) (first_of cs))

-- the stream of the next send on a connection: 1, 3, 5 and so on on one of HTTP/2 (RFC 9113 5.1.1)
abbrev pub stream_after : Proto → ℕ → Option ℕ
stream_after H2 sends = Some (2 * sends + 1)
stream_after H3 sends = None
stream_after Http11 sends = None
stream_after Other sends = None

-- the host and port that a route by an alternative goes to: the alternative's host, or the origin's own
abbrev pub host_or : Option Host → Host → Host
host_or None own = own
host_or (Some host) own = host

abbrev pub alternative_used : Route → Origin → Option (Host × ℕ)
alternative_used Direct o = None
alternative_used (Alt key) o = Some (host_or key.host o.host, key.port)
alternative_used (Rec endpoint) o = None

-- what a send tells the server of the alternative that carries it (RFC 7838 5), where the connection has a basis for the
-- origin by one
abbrev pub alt_used : Bool → Route → Origin → Option (Host × ℕ)
alt_used true route o = alternative_used route o
alt_used false route o = None

abbrev pub send : Journal → Request → ℕ → Connection → Action
send journal q now c =
    action.SendOn q.number c.number (stream_after c.proto (send_count journal c.number)) (alt_used (has_basis journal c q.origin now) c.route q.origin)

abbrev pub opening : Journal → Origin → Route → Action
opening journal o r = action.OpenTo (next_attempt journal) o r

-- an open connection was opened for the origin by the route, or an attempt is pending
abbrev pub is_in_use : Journal → Origin → Route → Bool
is_in_use journal o r = list_any (λ (c : Connection). origin_eq c.origin o && route_eq c.route r) (open_connections journal) || has_pending journal o r

-- the first live alternative that is supported and not broken
abbrev pub first_alternative : Journal → Origin → ℕ → Option Route
first_alternative journal o now = find (λ r. not (is_broken journal o r now)) (by_alternatives (live journal o now))

-- it is opened beside a send, where it isn't in use
abbrev pub opened_beside : Journal → Origin → Option Route → List Action
opened_beside journal o None = []
opened_beside journal o (Some r) = if is_in_use journal o r then [] else opening journal o r ∷ []

-- what is done for a request, by the best free connection, whether a usable route is pending, the usable routes, and
-- the authoritative connections, which are all busy where none is free
abbrev pub decide : Journal → Request → ℕ → Option Route → Option Connection → Bool → List Route → List Connection → List Action
decide journal q now beside (Some c) pending usable busy = send journal q now c ∷ opened_beside journal q.origin beside
decide journal q now beside None true usable busy = []
decide journal q now beside None false (r ∷ usable) busy = opening journal q.origin r ∷ []
decide journal q now beside None false [] (c ∷ busy) = []
decide journal q now beside None false [] [] = action.Refuse q.number ∷ []

abbrev pub dispatch : Journal → Request → ℕ → List Action
dispatch journal q now =
    decide journal q now (first_alternative journal q.origin now) (best journal q.origin now (free_carriers journal q.origin now))
    (list_any (has_pending journal q.origin) (usable_routes journal q now))
    (usable_routes journal q now) (carriers journal q.origin now)
