-- Requests: which there were, and where each stands.
use Rattle.std.specs.Prelude.{ℕ, Bool, true, false, nat_eq, List, Option, Some, None, if◌then◌else◌, unwrap_or, filter, find}
use Rattle.std.specs.Option.{option_map, option_and_then}
use Rattle.route_events.specs.declared.fact.Fact.{Fact}
use Rattle.route_events.specs.declared.fact.Fact.TheVariants as fact
use Rattle.route_events.specs.declared.action.Action.{Action}
use Rattle.route_events.specs.declared.action.Action.TheVariants as action
use Rattle.route_events.specs.declared.request.Request.{Request}
use Rattle.route_events.specs.Journal.{Entry, Happened, Cut, Taken, Journal, of_fact, of_action, newest, readings}

-- the request that a fact brings
abbrev pub request_in : Fact → Option Request
request_in (fact.Request number origin) = Some (record { number = number; origin = origin })
request_in _ = None

-- all requests in the order of their arrival
abbrev pub requests : Journal → List Request
requests journal = readings (λ older. of_fact request_in) journal

-- the request of a number
abbrev pub request_of : Journal → ℕ → Option Request
request_of journal number = find (λ (q : Request). nat_eq q.number number) (requests journal)

-- the newest request's number, 0 at first
abbrev pub newest_number : Journal → ℕ
newest_number journal = unwrap_or (option_map (λ (q : Request). q.number) (newest (of_fact request_in) journal)) 0

-- where a request stands: it waits, it is outstanding on a connection, or it has ended
pub data Standing : Type 0 where
  Waits : Standing
  OutOn : (conn : ℕ) → Standing
  Over : Standing

-- a response ends its request, unless the server says that it isn't the origin's (RFC 9110 15.5.20): then it waits again
abbrev pub after_status : ℕ → Standing
after_status status = if nat_eq status 421 then Waits else Over

-- a fact, or an action, that moves a request of a number
abbrev pub moved_by_fact : Fact → Option (ℕ × Standing)
moved_by_fact (fact.Request number origin) = Some (number, Waits)
moved_by_fact (fact.Response request status age altsvc) = Some (request, after_status status)
moved_by_fact _ = None

abbrev pub moved_by_action : Action → Option (ℕ × Standing)
moved_by_action (action.SendOn request conn stream alt_used) = Some (request, OutOn conn)
moved_by_action (action.Refuse request) = Some (request, Over)
moved_by_action (action.Lost request) = Some (request, Over)
moved_by_action _ = None

abbrev pub moved_by : Entry → Option (ℕ × Standing)
moved_by (Happened moment fact handed_in) = moved_by_fact fact
moved_by (Cut moment conn length) = None
moved_by (Taken action) = moved_by_action action

-- where the request of a number stands, by the newest entry that moved it
abbrev pub standing : Journal → ℕ → Option Standing
standing journal number = newest (λ entry. option_and_then (λ m. if nat_eq m.0 number then Some m.1 else None) (moved_by entry)) journal

abbrev pub waits : Option Standing → Bool
waits None = false
waits (Some Waits) = true
waits (Some (OutOn conn)) = false
waits (Some Over) = false

-- the requests that wait, in the order of their arrival
abbrev pub waiting : Journal → List Request
waiting journal = filter (λ (q : Request). waits (standing journal q.number)) (requests journal)

abbrev pub is_out : Option Standing → Bool
is_out None = false
is_out (Some Waits) = false
is_out (Some (OutOn conn)) = true
is_out (Some Over) = false

-- where a request was sent: the connection, and the stream of HTTP/2
pub record SentTo : Type 0 where
  pub conn : ℕ
  pub stream : Option ℕ

abbrev pub send_in : ℕ → Action → Option SentTo
send_in number (action.SendOn request conn stream alt_used) = if nat_eq request number then Some (record { conn = conn; stream = stream }) else None
send_in number _ = None

-- where the request of a number was sent last
abbrev pub sent_to : Journal → ℕ → Option SentTo
sent_to journal number = newest (of_action (send_in number)) journal
