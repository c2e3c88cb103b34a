-- Two journals that differ in how octets were cut into inputs count the same.
use Rattle.std.proofs.Common.{◌≡◌, ℕ, ◌+◌, List, map, sum, length, Option, is_some, filter, refl, ap}
use Rattle.origin_values.specs.Equality.{origin_eq}
use Rattle.origin_values.specs.declared.origin.Origin.{Origin}
use Rattle.alias_chain.specs.Held.{body_at}
use Rattle.route_events.specs.declared.answer.AnswerBody.{AnswerBody}
use Rattle.route_events.specs.declared.action.Action.TheVariants as action
use Rattle.route_events.specs.declared.attempt.Attempt.{Attempt}
use Rattle.route_events.specs.declared.route.Route.{Route}
use Rattle.route_events.specs.Journal.{Journal, of_fact, of_action}
use Rattle.dns_names.specs.Names.{name_eq}
use Rattle.route_events.specs.Answers.{addresses4, addresses6, records}
use Rattle.route_events.specs.Backoff.{is_barred_by}
use Rattle.route_events.specs.Distinct.{distinct, advertised_in, advertised_origins, pair_eq, attempted_routes}
use Rattle.route_events.specs.Counts.{named_in, answered_names, names_in_force, live_count, answer_count, broken_count, capped, stats}
use Rattle.route_events.proofs.Pieces.{Pieced, readings_same, attempts_same, waiting_same, open_connections_same, live_same, failures_same, newest_answer_same}

advertised_same : {j k : Journal} → Pieced j k → advertised_origins j ≡ advertised_origins k
advertised_same p = ap (distinct origin_eq) (readings_same (λ older. of_action advertised_in) (λ i m c b h. refl) (λ i l q entry. refl) p)

attempted_same : {j k : Journal} → Pieced j k → attempted_routes j ≡ attempted_routes k
attempted_same p = ap (λ (as' : List Attempt). distinct pair_eq (map (λ (a : Attempt). (a.origin, a.route)) as')) (attempts_same p)

names_same : {j k : Journal} → Pieced j k → answered_names j ≡ answered_names k
names_same p = ap (distinct name_eq) (readings_same (λ older. of_fact named_in) (λ i m c b h. refl) (λ i l q entry. refl) p)

live_count_same : {j k : Journal} → Pieced j k → (now : ℕ) → live_count j now ≡ live_count k now
live_count_same p now = λ i. sum (map (λ o. length (live_same p o now i)) (advertised_same p i))

in_force_same : {B : Type 0} {j k : Journal} (brings : AnswerBody → Option B) → Pieced j k → (now : ℕ) → names_in_force brings j now ≡ names_in_force brings k now
in_force_same brings p now = λ i. length (filter (λ name. is_some (body_at now (newest_answer_same brings p name i))) (names_same p i))

answer_count_same : {j k : Journal} → Pieced j k → (now : ℕ) → answer_count j now ≡ answer_count k now
answer_count_same p now = λ i. in_force_same addresses4 p now i + in_force_same addresses6 p now i + in_force_same records p now i

broken_count_same : {j k : Journal} → Pieced j k → (now : ℕ) → broken_count j now ≡ broken_count k now
broken_count_same p now = λ i. length (filter (λ (r : Origin × Route). is_barred_by (failures_same p r.0 r.1 i) r.1 now) (attempted_same p i))

pub stats_same : {j k : Journal} → Pieced j k → (now : ℕ) → stats j now ≡ stats k now
stats_same p now = λ i.
    action.Stats (capped (live_count_same p now i)) (capped (answer_count_same p now i)) (capped (broken_count_same p now i))
    (capped (length (open_connections_same p i))) (capped (length (waiting_same p i)))
