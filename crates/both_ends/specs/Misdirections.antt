-- How long a server's misdirection lasts (RFC 9110 15.5.20).
use Rattle.std.specs.Prelude.{◌≡◌, ℕ, Bool, true, false, List, ◌∷◌, ◌++◌, Option, Some, None}
use Rattle.std.specs.List.{list_any}
use Rattle.std.specs.Option.{option_map, option_map_or}
use Rattle.origin_values.specs.Equality.{origin_eq}
use Rattle.origin_values.specs.declared.host.Host.{Host}
use Rattle.origin_values.specs.declared.origin.Origin.{Origin}
use Rattle.advertiser_core.specs.ServedList.{is_served}
use Rattle.route_events.specs.declared.action.Action.TheVariants.{SendOn}
use Rattle.route_events.specs.declared.connection.Connection.{Connection}
use Rattle.route_events.specs.declared.fact.Fact.TheVariants.{Response}
use Rattle.route_events.specs.declared.request.Request.{Request}
use Rattle.route_events.specs.Connections.{connection_of, is_one_of, outstanding}
use Rattle.route_events.specs.InWords.{of_happened}
use Rattle.route_events.specs.Journal.{Entry, Happened, Taken, Journal}
use Rattle.route_events.specs.OriginSets.{lists}
use Rattle.route_events.specs.Requests.{request_of}
use Rattle.router_core.specs.Lent.{outstanding_origin}
use Rattle.both_ends.specs.Histories.{History, acts_of, journal_of}

-- the server was asked a request of an origin that was outstanding on a connection, and didn't serve the origin
pub record IsMisdirected (history : History) (request conn : ℕ) (o : Origin) : Type 0 where
  pub asked : outstanding_origin (journal_of history) request ≡ Some o
  pub carried : is_one_of request (outstanding (journal_of history) conn) ≡ true
  pub unserved : is_served (acts_of history) o ≡ false

-- the journal with the answer
abbrev pub answered : History → ℕ → ℕ → Journal
answered history now request = Happened now (Response request 421 0 None) true ∷ journal_of history

-- the request of a number is one for an origin
abbrev pub is_for : Journal → Origin → ℕ → Bool
is_for journal o number = option_map_or (λ (q : Request). origin_eq q.origin o) (request_of journal number) false

-- an ORIGIN frame that lists an origin is accepted on a connection (RFC 8336 2.3)
abbrev pub lists_on : Connection → Origin → Entry → Bool
lists_on c o entry = of_happened (lists c o) entry
