-- How much of each there is at a moment.
use Rattle.std.specs.Prelude.{ℕ, ◌+◌, min, sum, List, length, Option, Some, None, is_some, map, filter}
use Rattle.origin_values.specs.declared.origin.Origin.{Origin}
use Rattle.alias_chain.specs.Walk.{NameOf}
use Rattle.route_events.specs.declared.answer.AnswerBody.{AnswerBody}
use Rattle.route_events.specs.declared.fact.Fact.{Fact}
use Rattle.route_events.specs.declared.fact.Fact.TheVariants as fact
use Rattle.route_events.specs.declared.action.Action.{Action}
use Rattle.route_events.specs.declared.action.Action.TheVariants as action
use Rattle.route_events.specs.declared.route.Route.{Route}
use Rattle.route_events.specs.Journal.{Journal, of_fact, readings}
use Rattle.route_events.specs.Requests.{waiting}
use Rattle.route_events.specs.Connections.{open_connections}
use Rattle.route_events.specs.Alternatives.{live}
use Rattle.dns_names.specs.Names.{name_eq}
use Rattle.route_events.specs.Answers.{addresses4, addresses6, records, answer_at}
use Rattle.route_events.specs.Backoff.{is_broken}
use Rattle.route_events.specs.Distinct.{distinct, advertised_origins, attempted_routes}

-- the name that is answered
abbrev pub named_in : Fact → Option NameOf
named_in (fact.Answer name ttl body) = Some name
named_in _ = None

-- the different names for which an answer ever came, the oldest first
abbrev pub answered_names : Journal → List NameOf
answered_names journal = distinct name_eq (readings (λ older. of_fact named_in) journal)

-- the names that have an answer of a kind in force
abbrev pub names_in_force : {B : Type 0} → (AnswerBody → Option B) → Journal → ℕ → ℕ
names_in_force brings journal now = length (filter (λ name. is_some (answer_at brings journal now name)) (answered_names journal))

-- live alternatives of all origins; answers in force, by name and kind; broken routes
abbrev pub live_count : Journal → ℕ → ℕ
live_count journal now = sum (map (λ o. length (live journal o now)) (advertised_origins journal))

abbrev pub answer_count : Journal → ℕ → ℕ
answer_count journal now = names_in_force addresses4 journal now + names_in_force addresses6 journal now + names_in_force records journal now

abbrev pub broken_count : Journal → ℕ → ℕ
broken_count journal now = length (filter (λ (r : Origin × Route). is_broken journal r.0 r.1 now) (attempted_routes journal))

-- at most the greatest number of 64 bits
abbrev pub capped : ℕ → ℕ
capped n = min n 18446744073709551615

abbrev pub stats : Journal → ℕ → Action
stats journal now =
    action.Stats (capped (live_count journal now)) (capped (answer_count journal now)) (capped (broken_count journal now))
    (capped (length (open_connections journal))) (capped (length (waiting journal)))
