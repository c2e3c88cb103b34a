-- What is done for a waiting request, by what the tables hold.
use Rattle.std.specs.Prelude.{ℕ, ◌+◌, Bool, true, false, not, ◌&&◌, ◌||◌, List, [], ◌∷◌, ◌++◌, Option, Some, None, if◌then◌else◌, map, filter, find}
use Rattle.std.specs.List.{list_any}
use Rattle.origin_values.specs.declared.address.Addr.{Addr}
use Rattle.origin_values.specs.declared.origin.Origin.{Origin}
use Rattle.conn_states.specs.Record.{Record}
use Rattle.conn_states.specs.Said.{said}
use Rattle.route_choice.specs.declared.broken.Broken.{Broken}
use Rattle.route_choice.specs.Contents.{kept_failures}
use Rattle.route_choice.specs.Usable.{is_listed, is_open_to}
use Rattle.route_events.specs.declared.action.Action.{Action}
use Rattle.route_events.specs.declared.action.Action.TheVariants as action
use Rattle.route_events.specs.declared.route.Route.{Route}
use Rattle.route_events.specs.declared.route.Route.TheVariants.{Direct, Rec}
use Rattle.route_events.specs.Authority.{rests_on}
use Rattle.route_events.specs.Backoff.{is_barred_by}
use Rattle.route_events.specs.Routes.{by_alternatives}
use Rattle.route_events.specs.Dispatch.{first_of, stream_after, alt_used}
use Rattle.request_dispatch.specs.declared.choice.Choice.{Choice}
use Rattle.request_dispatch.specs.declared.choice.Choice.TheVariants.{Wait, Open, Send, Refuse}
use Rattle.request_dispatch.specs.declared.tables.Tables.{Tables}
use Rattle.request_dispatch.specs.declared.waiting.Waiting.{Waiting}
use Rattle.request_dispatch.specs.AttemptTable.{is_awaited}
use Rattle.request_dispatch.specs.ConnectionTable.{is_carrier, is_opened_by}
use Rattle.request_dispatch.specs.Looks.{Look}
use Rattle.request_dispatch.specs.Carriers.{best_connection}

-- the routes that a request may take, in order
abbrev pub routes_to : Look → Origin → List Route
routes_to look o = by_alternatives (look.live o) ++ map Rec (look.endpoints o) ++ Direct ∷ []

abbrev pub may_take : Look → Waiting → Route → Bool
may_take look w r = not (look.is_broken w.request.origin r) && not (is_listed w.tried r)

abbrev pub usable : Look → Waiting → List Route
usable look w = filter (may_take look w) (routes_to look w.request.origin)

-- the request may take a route for which an attempt is pending
abbrev pub may_await : Broken → ℕ → Tables → Waiting → Route → Bool
may_await broken now t w r =
    not (is_barred_by (kept_failures broken w.request.origin r) r now) && (not (is_listed w.tried r) && is_awaited t.attempts w.request.origin r)

-- an attempt is pending, or a connection is open that was opened so
abbrev pub is_in_use : Tables → Origin → Route → Bool
is_in_use t o r = list_any (is_opened_by o r) t.connections || is_awaited t.attempts o r

-- what is opened beside a send: the origin's first alternative that isn't broken, where it isn't in use
abbrev pub unless_in_use : Tables → Origin → Option Route → Option Route
unless_in_use t o None = None
unless_in_use t o (Some r) = if is_in_use t o r then None else Some r

abbrev pub beside : Look → Tables → Origin → Option Route
beside look t o = unless_in_use t o (find (λ r. not (look.is_broken o r)) (by_alternatives (look.live o)))

-- where no connection may carry it: it waits for a pending attempt, opens one, waits for a busy connection, or is refused
abbrev pub without_route : (Origin → Addr → Bool) → Tables → Origin → Choice
without_route at t o = if list_any (is_carrier at o) t.connections then Wait else Refuse

abbrev pub by_usable : (Origin → Addr → Bool) → Tables → Waiting → Bool → Option Route → Choice
by_usable at t w true first = Wait
by_usable at t w false (Some r) = Open r
by_usable at t w false None = without_route at t w.request.origin

-- the same, by what is kept of failures, where these are the routes of the request's origin
abbrev pub by_routes : (Origin → Addr → Bool) → Broken → ℕ → Tables → Waiting → List Route → Choice
by_routes at broken now t w rs = by_usable at t w (list_any (may_await broken now t w) rs) (find (is_open_to broken w.request.origin now w.tried) rs)

abbrev pub otherwise : Look → Tables → Waiting → Choice
otherwise look t w = by_usable look.is_address t w (list_any (is_awaited t.attempts w.request.origin) (usable look w)) (first_of (usable look w))

abbrev pub by_connection : Look → Tables → Waiting → Option Record → Choice
by_connection look t w None = otherwise look t w
by_connection look t w (Some c) =
    Send c.number (stream_after c.made.proto c.sends) (alt_used (rests_on (said c) w.request.origin) c.made.route w.request.origin) (beside look t w.request.origin)

abbrev pub choice : Look → Tables → Waiting → Choice
choice look t w = by_connection look t w (best_connection look.is_address w.request.origin t.connections)

-- the actions of a choice
abbrev pub starting : Tables → Waiting → Option Route → List Action
starting t w None = []
starting t w (Some r) = action.OpenTo (t.attempts.opened + 1) w.request.origin r ∷ []

abbrev pub actions_of : Tables → Waiting → Choice → List Action
actions_of t w Wait = []
actions_of t w (Open r) = action.OpenTo (t.attempts.opened + 1) w.request.origin r ∷ []
actions_of t w (Send conn stream used beside) = action.SendOn w.request.number conn stream used ∷ starting t w beside
actions_of t w Refuse = action.Refuse w.request.number ∷ []
