-- What a fact asks, which is answered behind all parts of its step.
use Rattle.std.specs.Prelude.{◌≡◌, ℕ, List, [], ◌∷◌, length, Option, Some, None}
use Rattle.answer_store.specs.Contents.{Counts as CountsAnswers}
use Rattle.network_cache.specs.Contents.{Counts as CountsAlternatives}
use Rattle.route_choice.specs.Contents.{Counts as CountsBroken}
use Rattle.origin_values.specs.declared.origin.Origin.{Origin}
use Rattle.route_events.specs.declared.action.Action.{Action}
use Rattle.route_events.specs.declared.action.Action.TheVariants as action
use Rattle.route_events.specs.declared.fact.Fact.{Fact}
use Rattle.route_events.specs.declared.fact.Fact.TheVariants.{Who, Stats}
use Rattle.route_events.specs.Counts.{capped}
use Rattle.request_dispatch.specs.ConnectionTable.{carrier_numbers}
use Rattle.request_dispatch.specs.Looks.{Look, look_of}
use Rattle.router_core.specs.declared.question.Question.{Question}
use Rattle.router_core.specs.declared.question.Question.TheVariants.{Carriers, Counts}
use Rattle.router_core.specs.declared.router.Router.{Router}

-- which connections are authoritative for an origin, or how much of each there is
abbrev pub asked_in : Fact → Option Question
asked_in (Who origin) = Some (Carriers origin)
asked_in Stats = Some Counts
asked_in _ = None

-- what a router's tables say at the moment of its newest step
abbrev pub known_by : Router → Look
known_by router = look_of router.alternatives router.broken router.answers router.last

-- all is counted, at that moment
pub record IsCounted (router : Router) (answer : List Action) : Type 0 where
  pub alternatives : ℕ
  pub live : CountsAlternatives router.alternatives router.last alternatives
  pub answers : ℕ
  pub in_force : CountsAnswers router.answers router.last answers
  pub broken : ℕ
  pub barred : CountsBroken router.broken router.last broken
  pub is : answer ≡ action.Stats alternatives answers broken (capped (length router.tables.connections)) (capped (length router.tables.requests.waiting)) ∷ []

abbrev pub IsAnswered : Router → Option Question → List Action → Type 0
IsAnswered router None answer = answer ≡ []
IsAnswered router (Some (Carriers origin)) answer = answer ≡ action.Who origin (carrier_numbers (known_by router).is_address origin router.tables.connections) ∷ []
IsAnswered router (Some Counts) answer = IsCounted router answer
