-- The table of requests, as every contract sees it.
use Rattle.std.specs.Prelude.{ℕ, Bool, false, not, nat_eq, nat_lt, List, [], ◌∷◌, ◌++◌, Option, Some, None, if◌then◌else◌, map, filter, find}
use Rattle.std.specs.Option.{option_map_or, option_and_then}
use Rattle.origin_values.specs.Equality.{origin_eq}
use Rattle.origin_values.specs.declared.origin.Origin.{Origin}
use Rattle.route_events.specs.declared.request.Request.{Request}
use Rattle.route_events.specs.declared.route.Route.{Route}
use Rattle.route_events.specs.Connections.{is_one_of}
use Rattle.request_dispatch.specs.declared.waiting.Waiting.{Waiting}
use Rattle.request_dispatch.specs.declared.outstanding.Outstanding.{Outstanding}

-- the requests that wait, in the order of arrival, and those that are outstanding, each with what was tried since it
-- arrived
pub record RequestTable : Type 0 where
  pub waiting : List Waiting
  pub outstanding : List Outstanding

abbrev pub requests_of : List Waiting → List Request
requests_of ws = map (λ (w : Waiting). w.request) ws

-- the outstanding one of a number
abbrev pub request_among : List Outstanding → ℕ → Option Outstanding
request_among outs number = find (λ (x : Outstanding). nat_eq x.request.number number) outs

-- the request of a number was sent on a stream
abbrev pub is_sent_on : List Outstanding → ℕ → ℕ → Bool
is_sent_on outs stream number = option_map_or (λ (x : Outstanding). option_map_or (nat_eq stream) x.stream false) (request_among outs number) false

-- of some numbers, the request that was sent on a stream
abbrev pub request_on : List Outstanding → ℕ → List ℕ → Option Outstanding
request_on outs stream numbers = option_and_then (request_among outs) (find (is_sent_on outs stream) numbers)

-- those that are left where some are lost or answered
abbrev pub without_all : List ℕ → List Outstanding → List Outstanding
without_all numbers outs = filter (λ (x : Outstanding). not (is_one_of x.request.number numbers)) outs

-- one arrives
abbrev pub arrived : ℕ → Origin → RequestTable → RequestTable
arrived number o t = record {
  waiting = t.waiting ++ record { request = record { number = number; origin = o }; tried = [] } ∷ [];
  outstanding = t.outstanding;
}

-- an attempt for an origin by a route ends: each request of the origin has tried it
abbrev pub tried_more : Origin → Route → Request → List Route → List Route
tried_more o r q tried = if origin_eq o q.origin then tried ++ r ∷ [] else tried

abbrev pub tried_after : Origin → Route → Waiting → Waiting
tried_after o r w = record { request = w.request; tried = tried_more o r w.request w.tried }

abbrev pub out_tried_after : Origin → Route → Outstanding → Outstanding
out_tried_after o r x = record { request = x.request; conn = x.conn; stream = x.stream; tried = tried_more o r x.request x.tried }

abbrev pub after_end : Origin → Route → RequestTable → RequestTable
after_end o r t = record { waiting = map (tried_after o r) t.waiting; outstanding = map (out_tried_after o r) t.outstanding }

-- some aren't outstanding any more
abbrev pub lost : List ℕ → RequestTable → RequestTable
lost numbers t = record { waiting = t.waiting; outstanding = without_all numbers t.outstanding }

-- one takes its place among those that wait, by its number
abbrev pub placed : Waiting → List Waiting → List Waiting
placed w [] = w ∷ []
placed w (x ∷ xs) = if nat_lt w.request.number x.request.number then w ∷ x ∷ xs else x ∷ placed w xs

-- an outstanding one waits again, where it waited before
abbrev pub waits_again : Option Outstanding → List Waiting → List Waiting
waits_again None ws = ws
waits_again (Some x) ws = placed (record { request = x.request; tried = x.tried }) ws

abbrev pub sent_back : ℕ → RequestTable → RequestTable
sent_back number t = record {
  waiting = waits_again (request_among t.outstanding number) t.waiting;
  outstanding = without_all (number ∷ []) t.outstanding;
}
