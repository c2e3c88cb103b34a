-- Which journals a router stands for: what it keeps is what the journal says. It keeps nothing else, so that a router
-- may forget what no later step can ask for.
use Rattle.std.specs.Prelude.{◌≡◌, ◌≤◌, ℕ, false, List, filter, Some, None}
use Rattle.origin_values.specs.declared.origin.Origin.{Origin}
use Rattle.network_cache.specs.Contents.{kept, live}
use Rattle.network_cache.specs.Freshness.{is_fresh}
use Rattle.route_choice.specs.Capped.{capped}
use Rattle.route_choice.specs.Contents.{kept_failures}
use Rattle.route_events.specs.declared.fact.Fact.{Fact}
use Rattle.route_events.specs.declared.action.Action.{Action}
use Rattle.route_events.specs.declared.route.Route.{Route}
use Rattle.route_events.specs.Journal.{Journal, step_count, newest_moment}
use Rattle.route_events.specs.Requests.{newest_number, waiting}
use Rattle.route_events.specs.Alternatives.{live as journal_live}
use Rattle.route_events.specs.Backoff.{is_direct, failures}
use Rattle.route_events.specs.Step.{IsRun, refusal, step, newest_actions}
use Rattle.request_dispatch.specs.RequestTable.{requests_of}
use Rattle.router_core.specs.declared.router.Router.{Router}
use Rattle.router_core.specs.declared.fault.StepFault.{StepFault}
use Rattle.router_core.specs.declared.fault.StepFault.TheVariants.{NoMemory, Refused}
use Rattle.router_core.specs.Holds.{Hold, AreTried, AreOut, AreRead}
use Rattle.router_core.specs.StoredAnswers.{HoldsAnswers, KeepsNoneEnded}

pub record StandsFor (router : Router) (journal : Journal) : Type 0 where
  -- the journal is one that a run gives
  pub run : IsRun journal
  -- how many steps there were, the moment of the newest, and the newest request's number
  pub facts : router.facts ≡ step_count journal
  pub last : router.last ≡ newest_moment journal
  pub newest : router.newest ≡ newest_number journal
  -- the pending attempts and the count of all, and the open connections with what is outstanding on them
  pub tables : Hold router.tables journal
  -- the requests that wait and those that are outstanding, and on which routes each was tried since it arrived
  pub waiting : requests_of router.tables.requests.waiting ≡ waiting journal
  pub tried : AreTried journal router.tables.requests.waiting
  pub outstanding : AreOut journal router.tables.requests.outstanding
  -- of each open connection, the unfinished frame behind the octets that came on it
  pub readers : AreRead journal router.readers
  -- at each moment from the newest on, the live alternatives of each origin; none that has ended is kept
  pub alternatives : (o : Origin) (now : ℕ) → newest_moment journal ≤ now → live router.alternatives o now ≡ journal_live journal o now
  pub none_ended : (o : Origin) → filter (is_fresh router.last) (kept router.alternatives o) ≡ kept router.alternatives o
  -- the failures of each origin's routes but the direct one, which no failure bars
  pub failures : (o : Origin) (r : Route) → is_direct r ≡ false → kept_failures router.broken o r ≡ capped (failures journal o r)
  -- at each moment from the newest on, the answers in force of each name and kind; none that has ended is kept
  pub answers : HoldsAnswers router.answers journal
  pub no_ended_answer : KeepsNoneEnded router.answers router.last

-- the step isn't refused, and gives these actions and this router
pub record Takes (new : Router) (actions : List Action) (journal : Journal) (now : ℕ) (fact : Fact) : Type 0 where
  pub not_refused : refusal journal now fact ≡ None
  pub written : actions ≡ newest_actions (step journal now fact)
  pub stands : StandsFor new (step journal now fact)
  -- from then on the newest step is this one
  pub moment : newest_moment (step journal now fact) ≡ now

-- the step is refused by the first reason, and the router is as it was
abbrev pub Refuses : Router → ℕ → Fact → StepFault → Type 0
Refuses old now fact NoMemory = Unit {0}
Refuses old now fact (Refused router reason) = (router ≡ old) × ((journal : Journal) → StandsFor old journal → refusal journal now fact ≡ Some reason)
