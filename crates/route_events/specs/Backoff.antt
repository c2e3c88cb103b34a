-- Failures of routes, which bar them for a while.
use Rattle.std.specs.Prelude.{ℕ, ◌+◌, ◌-◌, ◌*◌, ◌^◌, min, Bool, true, false, not, ◌&&◌, nat_lt, [], ◌∷◌, if◌then◌else◌}
use Rattle.std.specs.Option.{option_map_or}
use Rattle.origin_values.specs.Equality.{origin_eq}
use Rattle.origin_values.specs.declared.origin.Origin.{Origin}
use Rattle.route_events.specs.declared.fact.Fact.{Fact}
use Rattle.route_events.specs.declared.fact.Fact.TheVariants as fact
use Rattle.route_events.specs.declared.route.Route.{Route}
use Rattle.route_events.specs.declared.route.Route.TheVariants.{Direct, Alt, Rec}
use Rattle.route_events.specs.declared.attempt.Attempt.{Attempt}
use Rattle.route_events.specs.Journal.{Happened, Cut, Taken, Journal}
use Rattle.route_events.specs.Attempts.{pending_attempt}
use Rattle.route_events.specs.Connections.{connection_in}
use Rattle.route_events.specs.Authority.{route_eq, is_success}

-- an attempt is for this origin by this route
abbrev pub is_on : Origin → Route → Attempt → Bool
is_on o r a = origin_eq a.origin o && route_eq a.route r

-- the pending attempt of a number is one for this origin by this route
abbrev pub is_attempt_on : Journal → Origin → Route → ℕ → Bool
is_attempt_on journal o r number = option_map_or (is_on o r) (pending_attempt journal number) false

-- how often a route failed in a row, and the moment of the last failure
pub record Failures : Type 0 where
  pub count : ℕ
  pub last : ℕ

abbrev pub no_failures : Failures
no_failures = record { count = 0; last = 0 }

abbrev pub failed_at : ℕ → Failures → Failures
failed_at moment f = record { count = f.count + 1; last = moment }

-- the opening of a connection was a success
abbrev pub opens_well : Journal → Fact → Bool
opens_well older fact = option_map_or is_success (connection_in older fact) false

-- what a fact makes of the failures of an origin's route: an attempt by the route that succeeds, or a change of the
-- network, ends them; one that fails, or whose opening is no success, is one more
abbrev pub failures_after : Journal → Origin → Route → ℕ → Fact → Failures → Failures
failures_after older o r moment (fact.Opened attempt proto addr port names) f =
    if is_attempt_on older o r attempt then (if opens_well older (fact.Opened attempt proto addr port names) then no_failures else failed_at moment f) else f
failures_after older o r moment (fact.Failed attempt) f = if is_attempt_on older o r attempt then failed_at moment f else f
failures_after older o r moment fact.Network f = no_failures
failures_after older o r moment _ f = f

-- the failures of an origin's route since its newest success and the newest change of the network
abbrev pub failures : Journal → Origin → Route → Failures
failures [] o r = no_failures
failures (Happened moment fact handed_in ∷ older) o r = failures_after older o r moment fact (failures older o r)
failures (Cut moment conn length ∷ older) o r = failures older o r
failures (Taken action ∷ older) o r = failures older o r

-- for how many seconds so many failures bar a route: 300, doubled at each further one, at most two days
abbrev pub backoff : ℕ → ℕ
backoff count = min 172800 (300 * 2 ^ (count - 1))

abbrev pub is_backing_off : Failures → ℕ → Bool
is_backing_off f now = nat_lt 0 f.count && nat_lt (now - f.last) (backoff f.count)

abbrev pub is_direct : Route → Bool
is_direct Direct = true
is_direct (Alt key) = false
is_direct (Rec endpoint) = false

-- failures bar a route for a while, but never the direct one
abbrev pub is_barred_by : Failures → Route → ℕ → Bool
is_barred_by f r now = not (is_direct r) && is_backing_off f now

abbrev pub is_broken : Journal → Origin → Route → ℕ → Bool
is_broken journal o r now = is_barred_by (failures journal o r) r now
