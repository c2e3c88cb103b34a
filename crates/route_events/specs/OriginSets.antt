-- The origin set of a connection: what ORIGIN frames listed on it (RFC 8336 2.3).
use Rattle.std.specs.Prelude.{Bool, false, not, ◌&&◌, ◌||◌, nat_eq, List, [], ◌∷◌, Option, Some, None, Result, Ok, Err, is_some, if◌then◌else◌}
use Rattle.std.specs.Option.{option_map_or}
use Rattle.std.specs.List.{list_any}
use Rattle.alt_base.specs.declared.refusal.At.{At}
use Rattle.origin_values.specs.Equality.{origin_eq, host_eq}
use Rattle.origin_values.specs.declared.host.Host.{Host}
use Rattle.origin_values.specs.declared.host.Host.TheVariants as host
use Rattle.origin_values.specs.declared.address.Addr.{Addr}
use Rattle.origin_values.specs.declared.address.Addr.TheVariants as address
use Rattle.origin_values.specs.declared.origin.Origin.{Origin}
use Rattle.origin_frame.specs.declared.listed.Listed.{Listed}
use Rattle.origin_frame.specs.declared.refusal.OriginFrameRefusal.{OriginFrameRefusal}
use Rattle.origin_frame.specs.PayloadReading.{read_listed}
use Rattle.route_events.specs.declared.fact.Fact.{Fact}
use Rattle.route_events.specs.declared.fact.Fact.TheVariants as fact
use Rattle.route_events.specs.declared.connection.Connection.{Connection}
use Rattle.route_events.specs.Journal.{Happened, Cut, Taken, Journal}
use Rattle.route_events.specs.Connections.{is_https, is_tls}

-- the origins that a payload lists, where it is that of an ORIGIN frame (RFC 8336 2.1)
abbrev pub origins_of : Result Listed (At OriginFrameRefusal) → Option (List Origin)
origins_of (Ok listed) = Some listed.origins
origins_of (Err at) = None

-- the origins that a fact lists on a connection: those of an ORIGIN frame that is accepted, which is one on a connection of
-- TLS, with such a payload
abbrev pub listed_by : Connection → Fact → Option (List Origin)
listed_by c (fact.Delivered conn head payload) =
    if nat_eq conn c.number && (is_tls c && nat_eq head.kind 12) then origins_of (read_listed head.stream head.flags payload) else None
listed_by c _ = None

-- a fact is an ORIGIN frame that is accepted on the connection; and one that lists an origin
abbrev pub gates : Connection → Fact → Bool
gates c fact = is_some (listed_by c fact)

abbrev pub lists : Connection → Origin → Fact → Bool
lists c o fact = option_map_or (list_any (λ p. origin_eq p o)) (listed_by c fact) false

-- since a connection opened, some fact passed a test
abbrev pub came_on : (Fact → Bool) → Journal → Connection → Bool
came_on test [] c = false
came_on test (Happened moment (fact.Opened attempt proto addr port names) handed_in ∷ older) c = not (nat_eq attempt c.number) && came_on test older c
came_on test (Happened moment fact handed_in ∷ older) c = test fact || came_on test older c
came_on test (Cut moment conn length ∷ older) c = came_on test older c
came_on test (Taken action ∷ older) c = came_on test older c

-- a connection is gated, which is that it has an origin set, once an ORIGIN frame was accepted on it
abbrev pub is_gated : Journal → Connection → Bool
is_gated journal c = came_on (gates c) journal c

-- the host of the initial origin: the name that the connection was opened for, else its remote address
abbrev pub addr_host : Addr → Host
addr_host (address.V4 bytes) = host.V4 bytes
addr_host (address.V6 bytes) = host.V6 bytes

abbrev pub initial_host : Host → Addr → Host
initial_host (host.Name name) addr = host.Name name
initial_host _ addr = addr_host addr

-- an origin is the initial one of a connection
abbrev pub is_initial : Connection → Origin → Bool
is_initial c o = is_https o.scheme && (host_eq (initial_host c.origin.host c.addr) o.host && nat_eq c.port o.port)

-- the origin set holds an origin: it is the initial one, or an accepted frame listed it
abbrev pub in_set : Journal → Connection → Origin → Bool
in_set journal c o = is_initial c o || came_on (lists c o) journal c
