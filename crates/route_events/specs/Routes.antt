-- The routes to an origin, and which of them a request may take (RFC 7838 2, RFC 9460 3).
use Rattle.std.specs.Prelude.{ℕ, Bool, true, false, not, ◌&&◌, ◌||◌, nat_eq, List, [], ◌∷◌, ◌++◌, if◌then◌else◌, map, filter}
use Rattle.std.specs.Option.{option_map_or}
use Rattle.std.specs.List.{list_any}
use Rattle.alias_chain.specs.Following.{endpoints_by}
use Rattle.origin_values.specs.declared.origin.Origin.{Origin}
use Rattle.origin_values.specs.declared.protos.Protos.{Protos}
use Rattle.altsvc_grammar.specs.declared.alt.Alt.{Alt}
use Rattle.route_events.specs.declared.route.Route.{Route}
use Rattle.route_events.specs.declared.route.Route.TheVariants as route
use Rattle.route_events.specs.declared.request.Request.{Request}
use Rattle.route_events.specs.Journal.{Entry, Journal, of_fact}
use Rattle.route_events.specs.Alternatives.{live}
use Rattle.route_events.specs.Answers.{records, answer_at}
use Rattle.route_events.specs.Attempts.{ended_in, pending}
use Rattle.route_events.specs.Authority.{named}
use Rattle.route_events.specs.Backoff.{is_on, is_attempt_on, is_broken}
use Rattle.route_events.specs.Requests.{request_in}

-- the protocols that are supported
abbrev pub supported : Protos
supported = record { h2 = true; h3 = true; http11 = true }

-- an alternative has a supported protocol
abbrev pub is_supported : Alt → Bool
is_supported a = (named a.key.proto).h2 || ((named a.key.proto).h3 || (named a.key.proto).http11)

-- the routes by some alternatives, in list order
abbrev pub by_alternatives : List Alt → List Route
by_alternatives alts = map (λ (a : Alt). route.Alt a.key) (filter is_supported alts)

-- the routes to the endpoints of the origin's HTTPS records (RFC 9460 3), by the answers in force
abbrev pub endpoints : Journal → Origin → ℕ → List Route
endpoints journal o now = map route.Rec (endpoints_by (answer_at records journal now) supported o)

-- the routes of an origin, in order: by live alternatives, to endpoints, and the direct one
abbrev pub routes : Journal → Origin → ℕ → List Route
routes journal o now = by_alternatives (live journal o now) ++ endpoints journal o now ++ route.Direct ∷ []

-- an entry ends a pending attempt for the origin by the route
abbrev pub ends_on : Journal → Origin → Route → Entry → Bool
ends_on older o r entry = option_map_or (is_attempt_on older o r) (of_fact ended_in entry) false

-- an entry is the arrival of the request of a number
abbrev pub is_arrival : ℕ → Entry → Bool
is_arrival number entry = option_map_or (λ (q : Request). nat_eq q.number number) (of_fact request_in entry) false

-- an attempt for the request's origin by the route has ended since the request's arrival
abbrev pub was_tried : Journal → Request → Route → Bool
was_tried [] q r = false
was_tried (entry ∷ older) q r = if is_arrival q.number entry then false else ends_on older q.origin r entry || was_tried older q r

-- one of the origin's routes is usable for a request where it isn't broken and wasn't tried since the request's arrival
abbrev pub is_usable : Journal → Request → Route → ℕ → Bool
is_usable journal q r now = not (is_broken journal q.origin r now) && not (was_tried journal q r)

-- the usable routes, in order
abbrev pub usable_routes : Journal → Request → ℕ → List Route
usable_routes journal q now = filter (λ r. is_usable journal q r now) (routes journal q.origin now)

-- an attempt for the origin by the route is pending
abbrev pub has_pending : Journal → Origin → Route → Bool
has_pending journal o r = list_any (is_on o r) (pending journal)
