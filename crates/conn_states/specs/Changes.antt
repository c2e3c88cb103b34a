-- What each call leaves of a connection, and the tokens that it hands out.
use Rattle.std.specs.Prelude.{ℕ, ◌+◌, ◌*◌, false, List, [], ◌∷◌, ◌++◌, Option, Some, None, if◌then◌else◌}
use Rattle.origin_values.specs.declared.origin.Origin.{Origin}
use Rattle.origin_values.specs.declared.proto.Proto.{Proto}
use Rattle.route_events.specs.Authority.{authorises, is_h2}
use Rattle.route_events.specs.Connections.{without as without_request}
use Rattle.route_events.specs.declared.reach.Reach.{Reach}
use Rattle.conn_states.specs.declared.made.Made.{Made}
use Rattle.conn_states.specs.Origins.{joined, without, known}
use Rattle.conn_states.specs.Record.{Record, PermitRecord, SendRecord}
use Rattle.conn_states.specs.Said.{said}

-- a connection that is begun: without an origin set, and nothing was sent on it
abbrev pub begun : ℕ → Made → Record
begun number made = record {
  number = number;
  made = made;
  bound = made.bound;
  listed = None;
  misdirected = [];
  outstanding = [];
  sends = 0;
}

-- an ORIGIN frame was accepted: its origins join the set, and for them the connection isn't misdirected any more
-- (RFC 8336 2.3)
abbrev pub with_listed : List Origin → Record → Record
with_listed origins c = record c { listed = Some (joined (known c.listed) origins); misdirected = without origins c.misdirected }

-- a 421 came for an origin (RFC 9110 15.5.20)
abbrev pub with_misdirected : Origin → Record → Record
with_misdirected o c = record c { misdirected = joined c.misdirected (o ∷ []) }

-- its basis is taken away
abbrev pub unbound : Record → Record
unbound c = record c { bound = false }

-- it carried the send of a request
abbrev pub with_sent : ℕ → Record → Record
with_sent request c = record c { outstanding = c.outstanding ++ request ∷ []; sends = c.sends + 1 }

-- a request on it was answered
abbrev pub with_answered : ℕ → Record → Record
with_answered request c = record c { outstanding = without_request request c.outstanding }

-- leave for one send for an origin, where the connection may carry its requests
abbrev pub leave : Origin → Reach → Record → Option PermitRecord
leave o reach c = if authorises (said c) o reach then Some (record { conn = c.number; proto = c.made.proto; before = c.sends }) else None

-- the send of a request by a permit
abbrev pub spent : ℕ → PermitRecord → SendRecord
spent request p = record { conn = p.conn; request = request; proto = p.proto; before = p.before }

-- the stream of a send with so many sends before it: the client's streams are the odd ones (RFC 9113 5.1.1)
abbrev pub stream_of : Proto → ℕ → Option ℕ
stream_of proto before = if is_h2 proto then Some (2 * before + 1) else None
