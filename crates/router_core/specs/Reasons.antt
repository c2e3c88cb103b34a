-- Why a step isn't taken, by what a router keeps.
use Rattle.std.specs.Prelude.{ℕ, nat_eq, nat_lt, Option, Some, None, is_some, if◌then◌else◌}
use Rattle.conn_states.specs.Record.{Record}
use Rattle.route_events.specs.Connections.{is_h2}
use Rattle.route_events.specs.declared.fact.Fact.{Fact}
use Rattle.route_events.specs.declared.fact.Fact.TheVariants.{Request, Opened, Failed, Closed, Response, Input, Delivered, Answer, Network, Tick, Who, Stats}
use Rattle.route_events.specs.declared.refusal.StepRefusal.{StepRefusal}
use Rattle.route_events.specs.declared.refusal.StepRefusal.TheVariants.{Spent, TimeBack, NumberNotAbove, NoSuchAttempt, NoSuchConn, NotFramed, NoSuchRequest}
use Rattle.request_dispatch.specs.declared.tables.Tables.{Tables}
use Rattle.request_dispatch.specs.AttemptTable.{attempt_among}
use Rattle.request_dispatch.specs.RequestTable.{request_among}
use Rattle.request_dispatch.specs.ConnectionTable.{connection_among}

-- the newest request's number after a fact
abbrev pub newest_after : ℕ → Fact → ℕ
newest_after newest (Request number origin) = number
newest_after newest _ = newest

-- octets and frames come on an open connection of HTTP/2
abbrev pub frame_reason : Option Record → Option StepRefusal
frame_reason None = Some NoSuchConn
frame_reason (Some c) = if is_h2 c.made.proto then None else Some NotFramed

abbrev pub reason_of_fact : ℕ → Tables → Fact → Option StepRefusal
reason_of_fact newest t (Request number origin) = if nat_lt newest number then None else Some (NumberNotAbove newest)
reason_of_fact newest t (Opened attempt proto addr port names) = if is_some (attempt_among t.attempts.pending attempt) then None else Some NoSuchAttempt
reason_of_fact newest t (Failed attempt) = if is_some (attempt_among t.attempts.pending attempt) then None else Some NoSuchAttempt
reason_of_fact newest t (Closed conn) = if is_some (connection_among t.connections conn) then None else Some NoSuchConn
reason_of_fact newest t (Response request status age altsvc) = if is_some (request_among t.requests.outstanding request) then None else Some NoSuchRequest
reason_of_fact newest t (Input conn bytes) = frame_reason (connection_among t.connections conn)
reason_of_fact newest t (Delivered conn head payload) = frame_reason (connection_among t.connections conn)
reason_of_fact newest t (Answer name ttl body) = None
reason_of_fact newest t Network = None
reason_of_fact newest t Tick = None
reason_of_fact newest t (Who origin) = None
reason_of_fact newest t Stats = None

abbrev pub reason_of : ℕ → ℕ → ℕ → Tables → ℕ → Fact → Option StepRefusal
reason_of facts last newest t now fact =
    if nat_eq facts 16777215 then Some (Spent facts)
    else (if nat_lt now last then Some (TimeBack (record { 0 = last })) else reason_of_fact newest t fact)
