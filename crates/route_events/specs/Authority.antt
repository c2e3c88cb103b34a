-- Which connection is authoritative for an origin (RFC 9110 4.3; RFC 9113 9.1.1; RFC 8336 2.4).
use Rattle.std.specs.Prelude.{ℕ, Bool, true, false, not, ◌&&◌, ◌||◌, nat_eq, List, [], ◌∷◌, codes, if◌then◌else◌}
use Rattle.std.specs.Bool.{beq}
use Rattle.std.specs.Cmp.Lexicographic.{pointwise}
use Rattle.altsvc_grammar.specs.Keys.{key_eq}
use Rattle.altsvc_grammar.specs.declared.alt.Alt.{Alt}
use Rattle.dns_names.specs.Names.{name_eq}
use Rattle.alias_chain.specs.declared.endpoint.Endpoint.{Endpoint}
use Rattle.coalescing.specs.Covers.{covers}
use Rattle.origin_values.specs.Equality.{origin_eq}
use Rattle.origin_values.specs.declared.scheme.Scheme.{Scheme}
use Rattle.origin_values.specs.declared.scheme.Scheme.TheVariants.{Http, Https}
use Rattle.origin_values.specs.declared.origin.Origin.{Origin}
use Rattle.origin_values.specs.declared.protos.Protos.{Protos}
use Rattle.origin_values.specs.declared.proto.Proto.{Proto}
use Rattle.origin_values.specs.declared.proto.Proto.TheVariants.{H2, H3, Http11, Other}
use Rattle.route_events.specs.declared.route.Route.{Route}
use Rattle.route_events.specs.declared.route.Route.TheVariants as route
use Rattle.route_events.specs.declared.connection.Connection.{Connection}
use Rattle.route_events.specs.declared.reach.Reach.{Reach}
use Rattle.route_events.specs.declared.fact.Fact.TheVariants as fact
use Rattle.route_events.specs.declared.action.Action.TheVariants as action
use Rattle.route_events.specs.Journal.{Happened, Cut, Taken, Journal}
pub use Rattle.route_events.specs.Addresses.{is_address_of}
pub use Rattle.route_events.specs.Connections.{is_https, is_tls, is_h2}
use Rattle.route_events.specs.Connections.{is_open, outstanding, send_count}
pub use Rattle.route_events.specs.OriginSets.{addr_host, initial_host, is_initial, is_gated, in_set}
use Rattle.route_events.specs.Misdirection.{is_misdirected}
use Rattle.route_events.specs.Records.{ConnectionRecord}
use Rattle.route_events.specs.Alternatives.{alternatives_of, is_listed, live}

-- two sets of protocols are one: both have the same
abbrev pub protos_eq : Protos → Protos → Bool
protos_eq a b = beq a.h2 b.h2 && (beq a.h3 b.h3 && beq a.http11 b.http11)

-- two endpoints are one: the name, the port and the protocols are
abbrev pub endpoint_eq : Endpoint → Endpoint → Bool
endpoint_eq a b = name_eq a.target b.target && (nat_eq a.port b.port && protos_eq a.protos b.protos)

-- two routes are one: the direct one, by alternatives of one key, or to endpoints that are one
abbrev pub route_eq : Route → Route → Bool
route_eq route.Direct route.Direct = true
route_eq (route.Alt a) (route.Alt b) = key_eq a b
route_eq (route.Rec a) (route.Rec b) = endpoint_eq a b
route_eq route.Direct (route.Alt b) = false
route_eq route.Direct (route.Rec b) = false
route_eq (route.Alt a) route.Direct = false
route_eq (route.Alt a) (route.Rec b) = false
route_eq (route.Rec a) route.Direct = false
route_eq (route.Rec a) (route.Alt b) = false

-- the protocol of an ALPN identifier (RFC 7301 6), none where it isn't a supported one
abbrev pub named : List ℕ → Protos
named id = record { h2 = pointwise nat_eq id (codes "h2"); h3 = pointwise nat_eq id (codes "h3"); http11 = pointwise nat_eq id (codes "http/1.1") }

-- the protocols of a route: of an alternative its own, of an endpoint the endpoint's (RFC 9460 7.1.2)
abbrev pub protocols : Scheme → Route → Protos
protocols Http route.Direct = record { h2 = false; h3 = false; http11 = true }
protocols Https route.Direct = record { h2 = true; h3 = false; http11 = true }
protocols scheme (route.Alt key) = named key.proto
protocols scheme (route.Rec endpoint) = endpoint.protos

abbrev pub is_among : Protos → Proto → Bool
is_among protos H2 = protos.h2
is_among protos H3 = protos.h3
is_among protos Http11 = protos.http11
is_among protos Other = false

-- the opening was a success of its attempt: the protocol is one of the route's and, for https, the names cover the
-- origin's host (RFC 9110 4.3.4)
abbrev pub is_success : Connection → Bool
is_success c = is_among (protocols c.origin.scheme c.route) c.proto && (not (is_tls c) || covers c.names c.origin.host)

-- some alternatives give a route: one by an alternative has to be listed, the others need none
abbrev pub gives : List Alt → Route → Bool
gives alts route.Direct = true
gives alts (route.Alt key) = is_listed alts key
gives alts (route.Rec endpoint) = true

-- the basis of a connection, as one question of its record: it was opened for the origin, and what it rests on stands
abbrev pub rests_on : ConnectionRecord → Origin → Bool
rests_on c o = origin_eq c.made.origin o && c.bound

-- a connection of HTTP/2 stands at the origin's port and at one of its addresses (RFC 9113 9.1.1)
abbrev pub may_coalesce : Connection → Origin → Reach → Bool
may_coalesce c o reach = is_h2 c.proto && (nat_eq c.port o.port && reach.address)

-- authority for an https origin: TLS, a certificate for the host, and the origin set, if there is one, or else a
-- basis or the address
abbrev pub authorises_https : ConnectionRecord → Origin → Reach → Bool
authorises_https c o reach =
    is_tls c.made && (covers c.made.names o.host && (if c.gated then c.holds o else rests_on c o || may_coalesce c.made o reach))

-- authority for an http origin: a connection without TLS that has a basis
abbrev pub authorises_http : ConnectionRecord → Origin → Bool
authorises_http c o = not (is_tls c.made) && rests_on c o

-- an open connection may carry requests of an origin: nothing took its authority away
abbrev pub authorises : ConnectionRecord → Origin → Reach → Bool
authorises c o reach =
    not (c.misdirected o) && (if is_https o.scheme then authorises_https c o reach else authorises_http c o)

-- a connection can carry requests of an origin at all only where it was opened for it, where its origin set holds it, or
-- where it stands at the origin's port and at one of its addresses
abbrev pub is_candidate : ConnectionRecord → Origin → Reach → Bool
is_candidate c o reach = origin_eq c.made.origin o || ((c.gated && c.holds o) || (nat_eq c.made.port o.port && reach.address))

-- what the route of a connection rests on still stands: it was live when the connection opened, and every value that was
-- taken for the origin since lists it (RFC 7838 2.4). That an alternative isn't fresh any more, or that the network
-- changed, ends nothing.
abbrev pub is_upheld : Journal → Connection → Bool
is_upheld [] c = false
is_upheld (Happened moment (fact.Opened attempt proto addr port names) handed_in ∷ older) c =
    if nat_eq attempt c.number then gives (live older c.origin moment) c.route else is_upheld older c
is_upheld (Happened moment _ handed_in ∷ older) c = is_upheld older c
is_upheld (Cut moment conn length ∷ older) c = is_upheld older c
is_upheld (Taken (action.Alternatives o value) ∷ older) c =
    (not (origin_eq o c.origin) || gives (alternatives_of value) c.route) && is_upheld older c
is_upheld (Taken _ ∷ older) c = is_upheld older c

-- the record of a connection
abbrev pub record_of : Journal → Connection → ConnectionRecord
record_of journal c = record {
  made = c;
  bound = is_success c && is_upheld journal c;
  gated = is_gated journal c;
  holds = in_set journal c;
  misdirected = is_misdirected journal c;
  outstanding = outstanding journal c.number;
  sends = send_count journal c.number;
}

-- a connection has a basis for the origin that it was opened for
abbrev pub has_basis : Journal → Connection → Origin → ℕ → Bool
has_basis journal c o now = rests_on (record_of journal c) o

abbrev pub reach_of : Journal → Connection → Origin → ℕ → Reach
reach_of journal c o now = record { address = is_address_of journal o now c.addr }

-- the connection may carry requests of the origin: it is open, and nothing took its authority away
abbrev pub is_authoritative : Journal → Connection → Origin → ℕ → Bool
is_authoritative journal c o now = is_open journal c && authorises (record_of journal c) o (reach_of journal c o now)
