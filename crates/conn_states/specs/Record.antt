-- What a connection, a permit and a send are to every contract.
use Rattle.std.specs.Prelude.{ℕ, Bool, List, Option}
use Rattle.origin_values.specs.declared.origin.Origin.{Origin}
use Rattle.origin_values.specs.declared.proto.Proto.{Proto}
use Rattle.conn_states.specs.declared.made.Made.{Made}

-- a connection: its number; what it was begun with; whether it has a basis now; the origins that ORIGIN frames listed, or
-- none before the first of them (RFC 8336 2.3); the origins for which it is misdirected (RFC 9110 15.5.20); the requests
-- that are outstanding on it, in the order of their sends; and the number of its sends
pub record Record : Type 0 where
  pub number : ℕ
  pub made : Made
  pub bound : Bool
  pub listed : Option (List Origin)
  pub misdirected : List Origin
  pub outstanding : List ℕ
  pub sends : ℕ

-- leave for one send: the number and the protocol of the connection that gave it, and how many sends that carried before
pub record PermitRecord : Type 0 where
  pub conn : ℕ
  pub proto : Proto
  pub before : ℕ

-- a send: the same, and the request
pub record SendRecord : Type 0 where
  pub conn : ℕ
  pub request : ℕ
  pub proto : Proto
  pub before : ℕ
