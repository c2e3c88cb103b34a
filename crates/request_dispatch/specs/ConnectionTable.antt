-- The table of connections, as every contract sees it: the open ones, in the order of their opening.
use Rattle.std.specs.Prelude.{ℕ, Bool, false, not, ◌&&◌, nat_eq, List, [], ◌∷◌, Option, None, Some, if◌then◌else◌, find, filter, map, max}
use Rattle.std.specs.Option.{option_map_or}
use Rattle.altsvc_grammar.specs.declared.alt.Alt.{Alt}
use Rattle.origin_values.specs.Equality.{origin_eq}
use Rattle.origin_values.specs.declared.address.Addr.{Addr}
use Rattle.origin_values.specs.declared.origin.Origin.{Origin}
use Rattle.conn_states.specs.Changes.{begun as begun_record, with_listed, with_sent, with_misdirected, unbound}
use Rattle.conn_states.specs.Record.{Record}
use Rattle.conn_states.specs.Said.{said}
use Rattle.route_events.specs.declared.connection.Connection.{Connection}
use Rattle.route_events.specs.declared.route.Route.{Route}
use Rattle.route_events.specs.Connections.{is_one_of}
use Rattle.route_events.specs.Records.{is_occupied}
use Rattle.route_events.specs.Authority.{authorises, route_eq, gives}
use Rattle.request_dispatch.specs.Looks.{reach_at}

-- the one of a number, and the others
abbrev pub connection_among : List Record → ℕ → Option Record
connection_among cs number = find (λ (c : Record). nat_eq c.number number) cs

abbrev pub other_connections : List Record → ℕ → List Record
other_connections cs number = filter (λ (c : Record). not (nat_eq number c.number)) cs

-- what is outstanding on it
abbrev pub out_on : Option Record → List ℕ
out_on None = []
out_on (Some c) = c.outstanding

-- one that was just opened
abbrev pub begun : Connection → Bool → Record
begun made bound = begun_record made.number (record {
  origin = made.origin;
  route = made.route;
  proto = made.proto;
  addr = made.addr;
  port = made.port;
  names = made.names;
  bound = bound;
})

-- it is authoritative for the origin, where these addresses are the origins'
abbrev pub is_carrier : (Origin → Addr → Bool) → Origin → Record → Bool
is_carrier at o c = authorises (said c) o (reach_at at (said c).made o)

-- and it isn't busy
abbrev pub is_free : (Origin → Addr → Bool) → Origin → Record → Bool
is_free at o c = is_carrier at o c && not (is_occupied (said c))

-- and the request isn't outstanding on it
abbrev pub may_carry : (Origin → Addr → Bool) → Origin → ℕ → Record → Bool
may_carry at o request c = is_free at o c && not (is_one_of request c.outstanding)

-- a send of a request of an origin, where it may carry it
abbrev pub sent_for : (Origin → Addr → Bool) → Origin → ℕ → Record → Record
sent_for at o request c = if may_carry at o request c then with_sent request c else c

-- the same, where it is the connection of this number
abbrev pub sent_on : (Origin → Addr → Bool) → Origin → ℕ → ℕ → Record → Record
sent_on at o conn request c = if nat_eq c.number conn then sent_for at o request c else c

-- a 421 came for a request of an origin that is outstanding on it (RFC 9110 15.5.20)
abbrev pub misdirected_by : ℕ → Origin → Record → Record
misdirected_by request o c = if is_one_of request c.outstanding then with_misdirected o c else c

-- an ORIGIN frame that lists these origins was accepted on the connection of this number (RFC 8336 2.3)
abbrev pub listed_on : ℕ → List Origin → Record → Record
listed_on conn origins c = if nat_eq c.number conn then with_listed origins c else c

-- the one of a number is authoritative for the origin
abbrev pub is_carrier_of : (Origin → Addr → Bool) → Origin → ℕ → List Record → Bool
is_carrier_of at o conn cs = option_map_or (is_carrier at o) (connection_among cs conn) false

-- the numbers of those that are
abbrev pub carrier_numbers : (Origin → Addr → Bool) → Origin → List Record → List ℕ
carrier_numbers at o cs = map (λ (c : Record). c.number) (filter (is_carrier at o) cs)

-- the one on which a request is outstanding
abbrev pub carrying : List Record → ℕ → Option Record
carrying cs request = find (λ (c : Record). is_one_of request c.outstanding) cs

-- a value was taken for an origin: a connection of the origin that was opened by an alternative rests on nothing any more
-- where it isn't listed
abbrev pub is_left_out : Origin → List Alt → Record → Bool
is_left_out o alts c = origin_eq o c.made.origin && not (gives alts c.made.route)

abbrev pub rebound : Origin → List Alt → Record → Record
rebound o alts c = if is_left_out o alts c then unbound c else c

-- one was opened for the origin by the route
abbrev pub is_opened_by : Origin → Route → Record → Bool
is_opened_by o r c = origin_eq c.made.origin o && route_eq c.made.route r

-- the most sends on one of some connections
abbrev pub most_sends : List Record → ℕ
most_sends [] = 0
most_sends (c ∷ cs) = max c.sends (most_sends cs)
