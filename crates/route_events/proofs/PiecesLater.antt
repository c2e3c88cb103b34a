-- Two journals that differ in how octets were cut take the same steps from then on.
use Rattle.std.proofs.Common.{◌≡◌, ℕ, ◌+◌, ◌≤◌, ◌<◌, Bool, true, false, cond, not, ◌&&◌, nat_eq, nat_lt, nat_le, List, [], ◌∷◌, ◌++◌, map, length, Option, Some, None, is_some, unwrap_or, refl, ap, sym, ◌∙◌, subst, arith, true≢false}
use Rattle.std.specs.Option.{option_map, option_map_or}
use Rattle.std.specs.List.{list_any}
use Rattle.route_events.specs.declared.fact.Fact.{Fact}
use Rattle.route_events.specs.declared.fact.Fact.TheVariants.{Request, Opened, Failed, Closed, Response, Input, Delivered, Answer, Network, Tick, Who, Stats}
use Rattle.route_events.specs.declared.action.Action.{Action}
use Rattle.route_events.specs.declared.action.Action.TheVariants.{Lost, Field}
use Rattle.route_events.specs.declared.action.Action.TheVariants as action
use Rattle.route_events.specs.declared.refusal.StepRefusal.{StepRefusal}
use Rattle.route_events.specs.declared.refusal.StepRefusal.TheVariants.{TimeBack, NumberNotAbove, NoSuchAttempt, NoSuchConn, NoSuchRequest}
use Rattle.route_events.specs.declared.request.Request.{Request as RequestValue}
use Rattle.route_events.specs.declared.connection.Connection.{Connection}
use Rattle.route_events.specs.Journal.{Entry, Happened, Cut, Taken, Journal, of_fact, newest_moment, step_count}
use Rattle.route_events.specs.Requests.{request_in, newest_number, is_out, waiting}
use Rattle.route_events.specs.Connections.{is_https, is_one_of}
use Rattle.route_events.specs.Advertisements.{is_answered_by_authority, value_taken, field_effects, retries}
use Rattle.route_events.specs.Dispatch.{dispatch}
use Rattle.route_events.specs.Frames.{octets_on, deliveries}
use Rattle.route_events.specs.Step.{frame_refusal, fact_refusal, refusal, with_actions, effects, part_effects, with_part, with_fact, settle, settled, follow, answer_to, with_answer, step, run, actions}
use Rattle.route_events.proofs.Parts.{IsBehind, AreBehind, all_behind}
use Rattle.route_events.proofs.PartsKeep.{octets_step}
use Rattle.route_events.proofs.Pieces.{Pieced, Both, moment_same, newest_same, pending_attempt_same, request_of_same, standing_same, open_connections_same, open_connection_same, outstanding_same, authority_same}
use Rattle.route_events.proofs.PiecesCounted.{stats_same}
use Rattle.route_events.proofs.PiecesDone.{carriers_same, with_same, settled_same, frame_same, follow_same, actions_same}

pub record Twins (j k : Journal) : Type 0 where
  pub pieced : Pieced j k
  pub octets : (n : ℕ) → octets_on j n ≡ octets_on k n

-- effects of facts

answered_same : {j k : Journal} → Pieced j k → (now : ℕ) (q : RequestValue) → is_answered_by_authority j now q ≡ is_answered_by_authority k now q
answered_same p now q = λ i. list_any (λ (c : Connection). is_one_of q.number (outstanding_same p c.number i) && authority_same p c q.origin now i) (open_connections_same p i)

field_same : {j k : Journal} → Pieced j k → (now status : ℕ) (altsvc : Option (List ℕ)) (q : RequestValue) → field_effects j now status altsvc q ≡ field_effects k now status altsvc q
field_same p now status None q = refl
field_same p now status (Some bytes) q = λ i.
    cond (nat_eq status 421) (Field q.number 11 0)
    (cond (not (is_https q.origin.scheme)) (Field q.number 12 0) (cond (not (answered_same p now q i)) (Field q.number 13 0) (value_taken q bytes))) ∷ []

effects_same : {j k : Journal} → Pieced j k → (now : ℕ) (fact : Fact) → effects j now fact ≡ effects k now fact
effects_same p now (Closed conn) = λ i. map Lost (outstanding_same p conn i)
effects_same p now (Response q status age altsvc) = λ i. retries q status ++ option_map_or (λ r. field_same p now status altsvc r i) (request_of_same p q i) []
effects_same p now (Delivered conn head payload) = frame_same p now conn head payload
effects_same p now _ = refl

-- a step

fact_same : (j k : Journal) (now : ℕ) (fact : Fact) → Pieced j k → Pieced (settled (with_fact j now fact) now) (settled (with_fact k now fact) now)
fact_same j k now fact p =
    settled_same (with_fact j now fact) (with_fact k now fact) now
    (subst (λ as'. Pieced (with_fact j now fact) (with_actions (Happened now fact true ∷ k) as')) (effects_same p now fact) (with_same (Both (Happened now fact true) p) (effects j now fact)))

told_same : {j k : Journal} → Pieced j k → (now : ℕ) (fact : Fact) → answer_to j now fact ≡ answer_to k now fact
told_same p now (Who o) = λ i. action.Who o (map (λ (c : Connection). c.number) (carriers_same p o now i)) ∷ []
told_same p now Stats = λ i. stats_same p now i ∷ []
told_same p now _ = refl

answer_same : (j k : Journal) (now : ℕ) (fact : Fact) → Pieced j k → Pieced (with_answer j now fact) (with_answer k now fact)
answer_same j k now fact p = subst (λ as'. Pieced (with_answer j now fact) (with_actions k as')) (told_same p now fact) (with_same p (answer_to j now fact))

step_pieced : (j k : Journal) (now : ℕ) (fact : Fact) → Twins j k → Pieced (step j now fact) (step k now fact)
step_pieced j k now (Input conn bytes) twins =
    let begun : Journal = settled (with_fact k now (Input conn bytes)) now in
    subst (λ (x : List ℕ). Pieced (step j now (Input conn bytes)) (follow begun now (deliveries now conn x bytes))) (twins.octets conn)
    (follow_same (settled (with_fact j now (Input conn bytes)) now) begun now conn (deliveries now conn (octets_on j conn) bytes) (all_behind now conn (octets_on j conn) bytes) (fact_same j k now (Input conn bytes) twins.pieced))
step_pieced j k now fact twins = answer_same (settled (with_fact j now fact) now) (settled (with_fact k now fact) now) now fact (fact_same j k now fact twins.pieced)

octets_fact : (j k : Journal) (now : ℕ) (fact : Fact) (n : ℕ) → octets_on j n ≡ octets_on k n → octets_on (Happened now fact true ∷ j) n ≡ octets_on (Happened now fact true ∷ k) n
octets_fact j k now (Input conn bytes) n e = ap (λ (x : List ℕ). cond (nat_eq conn n) (x ++ bytes) x) e
octets_fact j k now fact n e = e

twins_step : (j k : Journal) (now : ℕ) (fact : Fact) → Twins j k → Twins (step j now fact) (step k now fact)
twins_step j k now fact twins = record {
  pieced = step_pieced j k now fact twins;
  octets = λ n. octets_step j now fact n ∙ octets_fact j k now fact n (twins.octets n) ∙ sym (octets_step k now fact n);
}

-- refusals

number_same : {j k : Journal} → Pieced j k → newest_number j ≡ newest_number k
number_same p = ap (λ w. unwrap_or (option_map (λ (q : RequestValue). q.number) w) 0) (newest_same (of_fact request_in) (λ m c b h. refl) p)

reason_same : {j k : Journal} → Pieced j k → (fact : Fact) → fact_refusal j fact ≡ fact_refusal k fact
reason_same p (Request n o) = ap (λ m. cond (nat_le n m) (Some (NumberNotAbove m)) None) (number_same p)
reason_same p (Opened n proto addr port names) = ap (λ w. cond (is_some w) None (Some NoSuchAttempt)) (pending_attempt_same p n)
reason_same p (Failed n) = ap (λ w. cond (is_some w) None (Some NoSuchAttempt)) (pending_attempt_same p n)
reason_same p (Closed n) = ap (λ w. cond (is_some w) None (Some NoSuchConn)) (open_connection_same p n)
reason_same p (Response q status age altsvc) = ap (λ w. cond (is_out w) None (Some NoSuchRequest)) (standing_same p q)
reason_same p (Input n bytes) = ap frame_refusal (open_connection_same p n)
reason_same p (Delivered n head payload) = ap frame_refusal (open_connection_same p n)
reason_same p Network = refl
reason_same p Tick = refl
reason_same p (Who o) = refl
reason_same p (Answer name ttl body) = refl
reason_same p Stats = refl

not_spent : (j : Journal) (now : ℕ) (fact : Fact) → step_count j < 16777215 → refusal j now fact ≡ cond (nat_lt now (newest_moment j)) (Some (TimeBack (record { 0 = newest_moment j }))) (fact_refusal j fact)
not_spent j now fact fewer = rw (other (step_count j) 16777215 fewer) refl
  where
    other : (a b : ℕ) → a < b → nat_eq a b ≡ false
    other a b h = grind arith

refusal_same : (j k : Journal) (now : ℕ) (fact : Fact) → Pieced j k → step_count j < 16777215 → step_count k < 16777215 → refusal j now fact ≡ refusal k now fact
refusal_same j k now fact p few_j few_k =
    not_spent j now fact few_j ∙ (λ i. cond (nat_lt now (moment_same p i)) (Some (TimeBack (record { 0 = moment_same p i }))) (reason_same p fact i)) ∙ sym (not_spent k now fact few_k)

-- the number of steps

steps_with : (j : Journal) (as' : List Action) → step_count (with_actions j as') ≡ step_count j
steps_with j [] = refl
steps_with j (a ∷ as') = steps_with (Taken a ∷ j) as'

steps_settle : (j : Journal) (now : ℕ) (qs : List RequestValue) → step_count (settle j now qs) ≡ step_count j
steps_settle j now [] = refl
steps_settle j now (q ∷ qs) = steps_settle (with_actions j (dispatch j q now)) now qs ∙ steps_with j (dispatch j q now)

steps_settled : (j : Journal) (now : ℕ) (part : Entry) → step_count (settled (with_part j now part) now) ≡ step_count (part ∷ j)
steps_settled j now part = steps_settle (with_part j now part) now (waiting (with_part j now part)) ∙ steps_with (part ∷ j) (part_effects j now part)

steps_behind : (j : Journal) (now conn : ℕ) (part : Entry) → IsBehind now conn part → step_count (part ∷ j) ≡ step_count j
steps_behind j now conn (Happened moment (Delivered to head payload) false) behind = omega arith
steps_behind j now conn (Cut moment to count) behind = refl
steps_behind j now conn _ behind = absurd behind

steps_follow : (j : Journal) (now conn : ℕ) (parts : List Entry) → AreBehind now conn parts → step_count (follow j now parts) ≡ step_count j
steps_follow j now conn [] behind = refl
steps_follow j now conn (part ∷ parts) behind =
    steps_follow (settled (with_part j now part) now) now conn parts behind.1 ∙ steps_settled j now part ∙ steps_behind j now conn part behind.0

pub steps_step : (j : Journal) (now : ℕ) (fact : Fact) → step_count (step j now fact) ≡ 1 + step_count j
steps_step j now (Input conn bytes) =
    steps_follow (settled (with_fact j now (Input conn bytes)) now) now conn (deliveries now conn (octets_on j conn) bytes) (all_behind now conn (octets_on j conn) bytes)
    ∙ steps_settled j now (Happened now (Input conn bytes) true)
steps_step j now fact = steps_with (settled (with_fact j now fact) now) (answer_to (settled (with_fact j now fact) now) now fact) ∙ steps_settled j now (Happened now fact true)

-- runs

pub runs_same : (j k : Journal) (events : List (ℕ × Fact)) → Twins j k → step_count j + length events ≤ 16777215 → step_count k ≤ step_count j → actions (run j events) ≡ actions (run k events)
runs_same j k [] twins few fewer = actions_same twins.pieced
runs_same j k (event ∷ events) twins few fewer =
    let one : refusal j event.0 event.1 ≡ refusal k event.0 event.1 = refusal_same j k event.0 event.1 twins.pieced (omega (arith, few)) (omega (arith, few, fewer)) in
    by_refusal (refusal j event.0 event.1) (refusal k event.0 event.1) one
    (runs_same (step j event.0 event.1) (step k event.0 event.1) events (twins_step j k event.0 event.1 twins)
    (omega (arith, few, steps_step j event.0 event.1)) (omega (arith, fewer, steps_step j event.0 event.1, steps_step k event.0 event.1)))
  where
    by_refusal : (v w : Option StepRefusal) → v ≡ w → actions (run (step j event.0 event.1) events) ≡ actions (run (step k event.0 event.1) events) →
        actions (cond (is_some v) j (run (step j event.0 event.1) events)) ≡ actions (cond (is_some w) k (run (step k event.0 event.1) events))
    by_refusal v w e rest = by_test (is_some v) (is_some w) (ap is_some e)
      where
        by_test : (a b : Bool) → a ≡ b → actions (cond a j (run (step j event.0 event.1) events)) ≡ actions (cond b k (run (step k event.0 event.1) events))
        by_test true true same = actions_same twins.pieced
        by_test false false same = rest
        by_test true false same = absurd (true≢false same)
        by_test false true same = absurd (true≢false (sym same))
