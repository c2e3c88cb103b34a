-- Which tables hold what a journal says.
use Rattle.std.specs.Prelude.{◌≡◌, ℕ, true, false, List, [], ◌∷◌, Some, None, length, map, is_some}
use Rattle.route_events.specs.declared.route.Route.{Route}
use Rattle.route_events.specs.Journal.{Journal}
use Rattle.route_events.specs.Attempts.{attempts, pending}
use Rattle.route_events.specs.Requests.{standing, is_out, request_of, sent_to}
use Rattle.frame_readers.specs.declared.readers.ReaderOf.{ReaderOf}
use Rattle.frame_readers.specs.Readers.{Reads, reader_among}
use Rattle.route_events.specs.Connections.{open_connections, is_open_number}
use Rattle.route_events.specs.Frames.{octets_on}
use Rattle.route_events.specs.Authority.{record_of}
use Rattle.route_events.specs.Routes.{was_tried}
use Rattle.route_choice.specs.Usable.{is_listed}
use Rattle.request_dispatch.specs.declared.outstanding.Outstanding.{Outstanding}
use Rattle.request_dispatch.specs.declared.tables.Tables.{Tables}
use Rattle.request_dispatch.specs.declared.waiting.Waiting.{Waiting}
use Rattle.request_dispatch.specs.RequestTable.{request_among}
use Rattle.conn_states.specs.Said.{said}

-- the tables of attempts and of connections: how many attempts there were, those that are pending, and each open
-- connection, in the order of opening, by what it says of itself
pub record Hold (tables : Tables) (journal : Journal) : Type 0 where
  pub opened : tables.attempts.opened ≡ length (attempts journal)
  pub pending : tables.attempts.pending ≡ pending journal
  pub connections : map said tables.connections ≡ map (record_of journal) (open_connections journal)

-- what was tried for the requests that wait is what the journal says
abbrev pub AreTried : Journal → List Waiting → Type 0
AreTried journal [] = Unit {0}
AreTried journal (w ∷ ws) = ((r : Route) → is_listed w.tried r ≡ was_tried journal w.request r) × AreTried journal ws

-- an outstanding request is as it arrived, was sent last where the table says, and what was tried for it is what the
-- journal says
pub record IsOut (journal : Journal) (n : ℕ) (x : Outstanding) : Type 0 where
  pub request : request_of journal n ≡ Some x.request
  pub sent : sent_to journal n ≡ Some (record { conn = x.conn; stream = x.stream })
  pub tried : (r : Route) → is_listed x.tried r ≡ was_tried journal x.request r

-- exactly the outstanding requests of a journal are among them
pub record AreOut (journal : Journal) (outs : List Outstanding) : Type 0 where
  pub out : (n : ℕ) → is_some (request_among outs n) ≡ is_out (standing journal n)
  pub known : (n : ℕ) (x : Outstanding) → request_among outs n ≡ Some x → IsOut journal n x

-- of each open connection the readers have read the octets that came on it, and there is no reader of another number
pub record AreRead (journal : Journal) (readers : List ReaderOf) : Type 0 where
  pub octets : (n : ℕ) → is_open_number journal n ≡ true → Reads readers n (octets_on journal n)
  pub no_other : (n : ℕ) → is_open_number journal n ≡ false → reader_among readers n ≡ None
