-- What a router lends, by what a journal says.
use Rattle.std.specs.Prelude.{◌≡◌, ℕ, ◌&&◌, nat_eq, Option, Some, None, if◌then◌else◌, find, is_some}
use Rattle.std.specs.Option.{option_map}
use Rattle.conn_states.specs.Origins.{is_among}
use Rattle.conn_states.specs.Record.{Record}
use Rattle.conn_states.specs.Said.{as_made, in_set}
use Rattle.origin_values.specs.declared.origin.Origin.{Origin}
use Rattle.route_events.specs.declared.connection.Connection.{Connection}
use Rattle.route_events.specs.declared.request.Request.{Request}
use Rattle.route_events.specs.Authority.{is_success, is_upheld, is_gated, in_set as in_journal_set}
use Rattle.route_events.specs.Connections.{open_connections, outstanding, send_count}
use Rattle.route_events.specs.Journal.{Journal}
use Rattle.route_events.specs.Misdirection.{is_misdirected}
use Rattle.route_events.specs.Requests.{request_of, standing, is_out}

-- the origin of a request that is outstanding
abbrev pub outstanding_origin : Journal → ℕ → Option Origin
outstanding_origin journal number = if is_out (standing journal number) then option_map (λ (q : Request). q.origin) (request_of journal number) else None

-- the open connection of a number
abbrev pub open_connection : Journal → ℕ → Option Connection
open_connection journal number = find (λ (c : Connection). nat_eq c.number number) (open_connections journal)

-- a connection that is lent is what the journal says of the open one of its number
pub record IsLent (journal : Journal) (number : ℕ) (lent : Record) : Type 0 where
  pub connection : Connection
  pub is_open : open_connection journal number ≡ Some connection
  -- what made it
  pub made : as_made lent.number lent.made ≡ connection
  -- whether it has a basis
  pub bound : lent.bound ≡ (is_success connection && is_upheld journal connection)
  -- whether an ORIGIN frame was accepted on it, and which origins its set then holds (RFC 8336 2.3)
  pub gated : is_some lent.listed ≡ is_gated journal connection
  pub set : (o : Origin) → in_set lent o ≡ in_journal_set journal connection o
  -- the origins that a 421 took away (RFC 9110 15.5.20)
  pub misdirected : (o : Origin) → is_among lent.misdirected o ≡ is_misdirected journal connection o
  -- the requests that are outstanding on it, in the order of their sends, and the number of its sends
  pub outstanding : lent.outstanding ≡ outstanding journal connection.number
  pub sends : lent.sends ≡ send_count journal connection.number
