-- Which two histories are alike: they share all that a later step can ask for. What else they hold may be forgotten: how
-- the direct route failed, the routes tried for requests that ended, connections that closed, values that ended.
use Rattle.std.specs.Prelude.{◌≡◌, ◌⊎◌, ℕ, true, false, [], length, Option, Some, All}
use Rattle.std.specs.Option.{option_map}
use Rattle.origin_values.specs.declared.origin.Origin.{Origin}
use Rattle.alias_chain.specs.Held.{in_force}
use Rattle.alias_chain.specs.Walk.{NameOf}
use Rattle.route_events.specs.declared.route.Route.{Route}
use Rattle.h2_framing.specs.Reading.{held_part}
use Rattle.route_events.specs.declared.request.Request.{Request}
use Rattle.route_events.specs.declared.connection.Connection.{Connection}
use Rattle.route_events.specs.Journal.{Journal, step_count, newest_moment}
use Rattle.route_events.specs.Attempts.{attempts, pending}
use Rattle.route_events.specs.Requests.{newest_number, request_of, standing, is_out, waiting, sent_to}
use Rattle.route_events.specs.Connections.{open_connections}
use Rattle.route_events.specs.Frames.{unfinished_on}
use Rattle.route_events.specs.Alternatives.{Took, live, took}
use Rattle.route_events.specs.Records.{ConnectionRecord}
use Rattle.route_events.specs.Authority.{record_of}
use Rattle.route_events.specs.Answers.{addresses4, addresses6, records, newest_answer}
use Rattle.route_events.specs.Backoff.{is_direct, failures}
use Rattle.route_events.specs.Routes.{was_tried}

-- a connection says the same in both: whether it has a basis, whether it has an origin set, which origins that holds, for
-- which it is misdirected, what is outstanding in which order, how many sends there were
pub record SameRecord (a b : ConnectionRecord) : Type 0 where
  pub made : a.made ≡ b.made
  pub bound : a.bound ≡ b.bound
  pub gated : a.gated ≡ b.gated
  pub holds : (o : Origin) → a.holds o ≡ b.holds o
  pub misdirected : (o : Origin) → a.misdirected o ≡ b.misdirected o
  pub outstanding : a.outstanding ≡ b.outstanding
  pub sends : a.sends ≡ b.sends

-- a request was tried on the same routes since its arrival
abbrev pub SameTries : Journal → Journal → Request → Type 0
SameTries j k q = (r : Route) → was_tried j q r ≡ was_tried k q r

-- the request of a number is outstanding in both, is the same, and was sent last on the same connection and stream
pub record SameOutstanding (j k : Journal) (number : ℕ) : Type 0 where
  pub out : is_out (standing k number) ≡ true
  pub request : request_of j number ≡ request_of k number
  pub sent : sent_to j number ≡ sent_to k number
  pub tried : (q : Request) → request_of j number ≡ Some q → SameTries j k q

-- the unfinished frame on a connection: its octets, or, of one that will be passed, its head and how many there are
pub record SameUnfinished (j k : Journal) (conn : ℕ) : Type 0 where
  pub held : held_part (unfinished_on j conn) ≡ held_part (unfinished_on k conn)
  pub count : length (unfinished_on j conn) ≡ length (unfinished_on k conn)

-- the moment and the age of a value
abbrev pub brought : Option Took → Option (ℕ × ℕ)
brought taken = option_map (λ (t : Took). (t.moment, t.age)) taken

pub record Alike (j k : Journal) : Type 0 where
  -- the number of steps, the moment of the newest, the newest request's number, and how many attempts there were
  pub steps : step_count j ≡ step_count k
  pub moment : newest_moment j ≡ newest_moment k
  pub newest : newest_number j ≡ newest_number k
  pub opened : length (attempts j) ≡ length (attempts k)
  -- the live alternatives of each origin and, where there is one, the moment and age of their value
  pub alternatives : (o : Origin) → live j o (newest_moment j) ≡ live k o (newest_moment k)
  pub brought : (o : Origin) → (live j o (newest_moment j) ≡ []) ⊎ (brought (took j o) ≡ brought (took k o))
  -- the answers in force of each name and kind, with the moment and the TTL of each
  pub v4_answers : (name : NameOf) → in_force (newest_moment j) (newest_answer addresses4 j name) ≡ in_force (newest_moment k) (newest_answer addresses4 k name)
  pub v6_answers : (name : NameOf) → in_force (newest_moment j) (newest_answer addresses6 j name) ≡ in_force (newest_moment k) (newest_answer addresses6 k name)
  pub https_answers : (name : NameOf) → in_force (newest_moment j) (newest_answer records j name) ≡ in_force (newest_moment k) (newest_answer records k name)
  -- how often each route but the direct one failed in a row and, where it did, when last
  pub failed : (o : Origin) (r : Route) → is_direct r ≡ false → (failures j o r).count ≡ (failures k o r).count
  pub last : (o : Origin) (r : Route) → is_direct r ≡ false → ((failures j o r).count ≡ 0) ⊎ ((failures j o r).last ≡ (failures k o r).last)
  -- the pending attempts, and the open connections in the order of their opening
  pub pending : pending j ≡ pending k
  pub connections : open_connections j ≡ open_connections k
  pub records : All (λ c. SameRecord (record_of j c) (record_of k c)) (open_connections j)
  pub unfinished : All (λ (c : Connection). SameUnfinished j k c.number) (open_connections j)
  -- the requests that wait and those that are outstanding
  pub tried : All (SameTries j k) (waiting j)
  pub waiting : waiting j ≡ waiting k
  pub outstanding : (number : ℕ) → is_out (standing j number) ≡ true → SameOutstanding j k number
  pub no_more : (number : ℕ) → is_out (standing k number) ≡ true → is_out (standing j number) ≡ true
