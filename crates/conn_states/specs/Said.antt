-- A connection as the rules see it.
use Rattle.std.specs.Prelude.{ℕ, Bool, ◌||◌, ◌∷◌, length, is_some}
use Rattle.origin_values.specs.Equality.{origin_eq}
use Rattle.origin_values.specs.declared.scheme.Scheme.TheVariants.{Https}
use Rattle.origin_values.specs.declared.origin.Origin.{Origin}
use Rattle.route_events.specs.Authority.{is_initial, initial_host}
use Rattle.route_events.specs.Distinct.{distinct}
use Rattle.route_events.specs.Records.{ConnectionRecord}
use Rattle.route_events.specs.declared.connection.Connection.{Connection}
use Rattle.conn_states.specs.declared.made.Made.{Made}
use Rattle.conn_states.specs.Origins.{is_among, known}
use Rattle.conn_states.specs.Record.{Record}

-- how it was made
abbrev pub as_made : ℕ → Made → Connection
as_made number made = record {
  number = number;
  origin = made.origin;
  route = made.route;
  proto = made.proto;
  addr = made.addr;
  port = made.port;
  names = made.names;
}

-- its origin set holds an origin: it is the initial one, or an ORIGIN frame listed it (RFC 8336 2.3)
abbrev pub in_set : Record → Origin → Bool
in_set c o = is_initial (as_made c.number c.made) o || is_among (known c.listed) o

-- the record that the rules of authority ask
abbrev pub said : Record → ConnectionRecord
said c = record {
  made = as_made c.number c.made;
  bound = c.bound;
  gated = is_some c.listed;
  holds = in_set c;
  misdirected = is_among c.misdirected;
  outstanding = c.outstanding;
  sends = c.sends;
}

-- the initial origin of a connection (RFC 8336 2.3)
abbrev pub initial_origin : Connection → Origin
initial_origin c = record { scheme = Https; host = initial_host c.origin.host c.addr; port = c.port }

-- how many different origins its set holds
abbrev pub set_size : Record → ℕ
set_size c = length (distinct origin_eq (initial_origin (as_made c.number c.made) ∷ known c.listed))
