-- What the effect of a fact makes of the state of a step.
use Rattle.std.specs.Prelude.{ℕ, Bool, not, ◌&&◌, nat_eq, List, [], ◌∷◌, ◌++◌, Option, Some, None, if◌then◌else◌, map}
use Rattle.std.specs.Option.{option_map_or}
use Rattle.alias_chain.specs.Walk.{NameOf}
use Rattle.altsvc_grammar.specs.declared.alt.Alt.{Alt}
use Rattle.coalescing.specs.declared.cert_name.CertName.{CertName}
use Rattle.conn_states.specs.Changes.{with_answered}
use Rattle.conn_states.specs.Record.{Record}
use Rattle.origin_values.specs.declared.address.Addr.{Addr}
use Rattle.origin_values.specs.declared.origin.Origin.{Origin}
use Rattle.origin_values.specs.declared.proto.Proto.{Proto}
use Rattle.route_events.specs.declared.answer.AnswerBody.{AnswerBody}
use Rattle.route_events.specs.declared.fact.Fact.{Fact}
use Rattle.route_events.specs.declared.fact.Fact.TheVariants.{Request, Opened, Failed, Closed, Response, Input, Delivered, Answer, Network, Tick, Who, Stats}
use Rattle.route_events.specs.declared.action.Action.{Action}
use Rattle.route_events.specs.declared.action.Action.TheVariants.{Close, Lost, Field}
use Rattle.route_events.specs.declared.attempt.Attempt.{Attempt}
use Rattle.route_events.specs.declared.connection.Connection.{Connection}
use Rattle.route_events.specs.declared.request.Request.{Request as RequestValue}
use Rattle.route_events.specs.Authority.{is_https, is_success, gives}
use Rattle.route_events.specs.Advertisements.{value_taken, retries}
use Rattle.route_events.specs.Answers.{malformed_effects}
use Rattle.request_dispatch.specs.declared.outstanding.Outstanding.{Outstanding}
use Rattle.request_dispatch.specs.declared.step_state.StepState.{StepState}
use Rattle.request_dispatch.specs.AttemptTable.{attempt_among, without_attempt}
use Rattle.request_dispatch.specs.RequestTable as requests
use Rattle.request_dispatch.specs.RequestTable.{RequestTable, request_among, after_end, lost, sent_back}
use Rattle.request_dispatch.specs.ConnectionTable.{begun, connection_among, other_connections, out_on, misdirected_by}
use Rattle.request_dispatch.specs.Carriers.{is_answered_by_authority}
use Rattle.router_core.specs.FrameEffects.{delivered_so}
use Rattle.router_core.specs.Rebinding.{rebound_by}

-- an attempt ends: it isn't pending any more, and each request of its origin has tried its route
abbrev pub with_end : StepState → Attempt → StepState
with_end s a = record {
  tables = record { attempts = without_attempt a.number s.tables.attempts; requests = after_end a.origin a.route s.tables.requests; connections = s.tables.connections };
  actions = s.actions;
}

abbrev pub ended : StepState → Option Attempt → StepState
ended s None = s
ended s (Some a) = with_end s a

-- a connection is made, and kept
abbrev pub made_of : Attempt → Proto → Addr → ℕ → List CertName → Connection
made_of a proto addr port names = record { number = a.number; origin = a.origin; route = a.route; proto = proto; addr = addr; port = port; names = names }

abbrev pub begun_of : (Origin → List Alt) → Connection → Record
begun_of live c = begun c (is_success c && gives (live c.origin) c.route)

abbrev pub with_connection : (Origin → List Alt) → StepState → Connection → StepState
with_connection live s c = record {
  tables = record { attempts = s.tables.attempts; requests = s.tables.requests; connections = s.tables.connections ++ begun_of live c ∷ [] };
  actions = s.actions;
}

abbrev pub opened : (Origin → List Alt) → StepState → Option Attempt → Proto → Addr → ℕ → List CertName → StepState
opened live s None proto addr port names = s
opened live s (Some a) proto addr port names = with_connection live (with_end s a) (made_of a proto addr port names)

-- a connection ends: what was outstanding on it is lost
abbrev pub closed : StepState → ℕ → StepState
closed s conn = record {
  tables = record {
    attempts = s.tables.attempts;
    requests = lost (out_on (connection_among s.tables.connections conn)) s.tables.requests;
    connections = other_connections s.tables.connections conn;
  };
  actions = s.actions ++ map Lost (out_on (connection_among s.tables.connections conn));
}

-- a connection was cut: it is closed, and what was outstanding on it is lost (RFC 9113 4.2)
abbrev pub cut_so : StepState → ℕ → ℕ → StepState
cut_so s conn length = closed (record { tables = s.tables; actions = s.actions ++ Close conn length ∷ [] }) conn

-- a request arrives
abbrev pub arrived : StepState → ℕ → Origin → StepState
arrived s number origin = record {
  tables = record { attempts = s.tables.attempts; requests = requests.arrived number origin s.tables.requests; connections = s.tables.connections };
  actions = s.actions;
}

-- what is done for the Alt-Svc of a response, where these are the addresses of origins
abbrev pub advertised : (Origin → Addr → Bool) → List Record → ℕ → RequestValue → List ℕ → Action
advertised is_address connections status q bytes =
    if nat_eq status 421 then Field q.number 11 0
    else (if not (is_https q.origin.scheme) then Field q.number 12 0
    else (if not (is_answered_by_authority is_address q.number q.origin connections) then Field q.number 13 0
    else value_taken q bytes))

abbrev pub field_done : (Origin → Addr → Bool) → List Record → ℕ → Option (List ℕ) → Outstanding → List Action
field_done is_address connections status None x = []
field_done is_address connections status (Some bytes) x = advertised is_address connections status x.request bytes ∷ []

-- the actions of a response: a request that was turned away is tried again, and then what is done for the Alt-Svc
abbrev pub answer_done : (Origin → Addr → Bool) → List Record → ℕ → ℕ → Option (List ℕ) → Option Outstanding → List Action
answer_done is_address connections request status altsvc found = retries request status ++ option_map_or (field_done is_address connections status altsvc) found []

-- a connection whose server says that it isn't the origin's is misdirected for the request's origin (RFC 9110 15.5.20)
abbrev pub misdirected_for : ℕ → ℕ → Option Outstanding → List Record → List Record
misdirected_for request status None connections = connections
misdirected_for request status (Some x) connections = if nat_eq status 421 then map (misdirected_by request x.request.origin) connections else connections

-- the request ends, or waits again where the server says that it isn't the origin's (RFC 9110 15.5.20)
abbrev pub after_answer : ℕ → ℕ → RequestTable → RequestTable
after_answer request status t = if nat_eq status 421 then sent_back request t else lost (request ∷ []) t

abbrev pub answered_so : StepState → ℕ → ℕ → Option Outstanding → List Action → StepState
answered_so s request status found actions = record {
  tables = record {
    attempts = s.tables.attempts;
    requests = after_answer request status s.tables.requests;
    connections = rebound_by actions (map (with_answered request) (misdirected_for request status found s.tables.connections));
  };
  actions = s.actions ++ actions;
}

-- a request is answered
abbrev pub answered : (Origin → Addr → Bool) → StepState → ℕ → ℕ → Option (List ℕ) → StepState
answered is_address s request status altsvc =
    answered_so s request status (request_among s.tables.requests.outstanding request)
    (answer_done is_address s.tables.connections request status altsvc (request_among s.tables.requests.outstanding request))

-- a DNS answer comes: a malformed record is named
abbrev pub resolved : StepState → NameOf → AnswerBody → StepState
resolved s name body = record { tables = s.tables; actions = s.actions ++ malformed_effects name body }

-- the effect of a fact, where these alternatives are live and these are the addresses of origins
abbrev pub with_effect : (Origin → List Alt) → (Origin → Addr → Bool) → StepState → Fact → StepState
with_effect live is_address s (Request number origin) = arrived s number origin
with_effect live is_address s (Opened attempt proto addr port names) = opened live s (attempt_among s.tables.attempts.pending attempt) proto addr port names
with_effect live is_address s (Failed attempt) = ended s (attempt_among s.tables.attempts.pending attempt)
with_effect live is_address s (Closed conn) = closed s conn
with_effect live is_address s (Response request status age altsvc) = answered is_address s request status altsvc
with_effect live is_address s (Input conn bytes) = s
with_effect live is_address s (Delivered conn head payload) = delivered_so is_address s conn head payload
with_effect live is_address s (Answer name ttl body) = resolved s name body
with_effect live is_address s Network = s
with_effect live is_address s Tick = s
with_effect live is_address s (Who origin) = s
with_effect live is_address s Stats = s
