-- What a connection is to the rules: one plain record.
use Rattle.std.specs.Prelude.{ℕ, Bool, not, ◌&&◌, List}
use Rattle.origin_values.specs.declared.origin.Origin.{Origin}
use Rattle.route_events.specs.declared.connection.Connection.{Connection}
use Rattle.route_events.specs.Connections.{is_http11, is_none_out}

-- how it was made; whether it has a basis for the origin that it was opened for; whether it has an origin set, and which
-- origins that holds (RFC 8336 2.3); for which origins it is misdirected (RFC 9110 15.5.20); what is outstanding on it, in
-- the order of the sends; and the number of its sends
pub record ConnectionRecord : Type 0 where
  pub made : Connection
  pub bound : Bool
  pub gated : Bool
  pub holds : Origin → Bool
  pub misdirected : Origin → Bool
  pub outstanding : List ℕ
  pub sends : ℕ

-- it carries one request at a time, and one is outstanding (RFC 9112 9.3)
abbrev pub is_occupied : ConnectionRecord → Bool
is_occupied c = is_http11 c.made.proto && not (is_none_out c.outstanding)
