-- Connections: which there were, which are open, and what is outstanding on them.
use Rattle.std.specs.Prelude.{ℕ, ◌+◌, Bool, true, false, not, ◌&&◌, nat_eq, List, [], ◌∷◌, ◌++◌, Option, Some, None, if◌then◌else◌, filter, find, is_some}
use Rattle.std.specs.Option.{option_map, option_map_or}
use Rattle.std.specs.List.{list_any}
use Rattle.origin_values.specs.declared.scheme.Scheme.{Scheme}
use Rattle.origin_values.specs.declared.scheme.Scheme.TheVariants.{Http, Https}
use Rattle.origin_values.specs.declared.proto.Proto.{Proto}
use Rattle.origin_values.specs.declared.proto.Proto.TheVariants.{H2, H3, Http11, Other}
use Rattle.route_events.specs.declared.fact.Fact.{Fact}
use Rattle.route_events.specs.declared.fact.Fact.TheVariants as fact
use Rattle.route_events.specs.declared.action.Action.TheVariants as action
use Rattle.route_events.specs.declared.attempt.Attempt.{Attempt}
use Rattle.route_events.specs.declared.connection.Connection.{Connection}
use Rattle.route_events.specs.Journal.{Entry, Happened, Cut, Taken, Journal, of_fact, readings}
use Rattle.route_events.specs.Attempts.{pending_attempt}

-- the connection that a fact makes, of the pending attempt that it ends
abbrev pub connection_in : Journal → Fact → Option Connection
connection_in older (fact.Opened attempt proto addr port names) =
    option_map (λ (a : Attempt). record { number = attempt; origin = a.origin; route = a.route; proto = proto; addr = addr; port = port; names = names }) (pending_attempt older attempt)
connection_in older _ = None

-- a connection is one of TLS where the origin that it was opened for is https
abbrev pub is_https : Scheme → Bool
is_https Http = false
is_https Https = true

abbrev pub is_tls : Connection → Bool
is_tls c = is_https c.origin.scheme

-- all connections in the order of their opening
abbrev pub connections : Journal → List Connection
connections journal = readings (λ older. of_fact (connection_in older)) journal

-- the connection of a number
abbrev pub connection_of : Journal → ℕ → Option Connection
connection_of journal number = find (λ (c : Connection). nat_eq c.number number) (connections journal)

-- the connection that a fact ends
abbrev pub closed_in : Fact → Option ℕ
closed_in (fact.Closed conn) = Some conn
closed_in _ = None

-- an entry ends the connection of a number: it closed, or its octets were cut
abbrev pub is_numbered : ℕ → Option ℕ → Bool
is_numbered number ended = option_map_or (λ n. nat_eq n number) ended false

abbrev pub closes : ℕ → Entry → Bool
closes number (Happened moment fact handed_in) = is_numbered number (closed_in fact)
closes number (Cut moment conn length) = nat_eq conn number
closes number (Taken action) = false

-- nothing has ended the connection
abbrev pub is_open : Journal → Connection → Bool
is_open journal c = not (list_any (closes c.number) journal)

-- the open connections in the order of their opening
abbrev pub open_connections : Journal → List Connection
open_connections journal = filter (is_open journal) (connections journal)

-- the open connection of a number
abbrev pub open_connection : Journal → ℕ → Option Connection
open_connection journal number = find (λ (c : Connection). nat_eq c.number number) (open_connections journal)

abbrev pub is_open_number : Journal → ℕ → Bool
is_open_number journal number = is_some (open_connection journal number)

abbrev pub without : ℕ → List ℕ → List ℕ
without number numbers = filter (λ n. not (nat_eq n number)) numbers

-- the request that a fact answers
abbrev pub answered_in : Fact → Option ℕ
answered_in (fact.Response request status age altsvc) = Some request
answered_in _ = None

abbrev pub without_any : Option ℕ → List ℕ → List ℕ
without_any None numbers = numbers
without_any (Some number) numbers = without number numbers

-- a request is one of those
abbrev pub is_one_of : ℕ → List ℕ → Bool
is_one_of number numbers = list_any (nat_eq number) numbers

-- the requests that are outstanding on a connection, in the order of their sends
abbrev pub outstanding : Journal → ℕ → List ℕ
outstanding [] conn = []
outstanding (Happened moment fact handed_in ∷ older) conn = without_any (answered_in fact) (outstanding older conn)
outstanding (Cut moment cut length ∷ older) conn = outstanding older conn
outstanding (Taken (action.SendOn request to stream alt_used) ∷ older) conn = if nat_eq to conn then outstanding older conn ++ request ∷ [] else outstanding older conn
outstanding (Taken (action.Lost request) ∷ older) conn = without request (outstanding older conn)
outstanding (Taken _ ∷ older) conn = outstanding older conn

-- the number of sends on a connection
abbrev pub send_count : Journal → ℕ → ℕ
send_count [] conn = 0
send_count (Happened moment fact handed_in ∷ older) conn = send_count older conn
send_count (Cut moment cut length ∷ older) conn = send_count older conn
send_count (Taken (action.SendOn request to stream alt_used) ∷ older) conn = if nat_eq to conn then send_count older conn + 1 else send_count older conn
send_count (Taken _ ∷ older) conn = send_count older conn

-- a connection of HTTP/2
abbrev pub is_h2 : Proto → Bool
is_h2 H2 = true
is_h2 H3 = false
is_h2 Http11 = false
is_h2 Other = false

-- a connection that carries one request at a time (RFC 9112 9.3)
abbrev pub is_http11 : Proto → Bool
is_http11 H2 = false
is_http11 H3 = false
is_http11 Http11 = true
is_http11 Other = false

abbrev pub is_none_out : List ℕ → Bool
is_none_out [] = true
is_none_out (request ∷ requests) = false

-- a connection of HTTP/1.1 is busy while a request is outstanding on it
abbrev pub is_busy : Journal → Connection → Bool
is_busy journal c = is_http11 c.proto && not (is_none_out (outstanding journal c.number))
