-- How octets are cut into inputs changes no action.
use Rattle.std.proofs.Common.{◌≡◌, ◌≤◌, ℕ, ◌+◌, Bool, true, false, cond, nat_eq, List, [], ◌∷◌, ◌++◌, drop, length, None, refl, ap, sym, ◌∙◌, subst, arith, append_assoc}
use Rattle.std.proofs.lemmas.List.{append-nil}
use Rattle.h2_framing.specs.Streams.{too_large_of}
use Rattle.route_events.specs.declared.fact.Fact.{Fact}
use Rattle.route_events.specs.declared.fact.Fact.TheVariants.{Input, Delivered}
use Rattle.route_events.specs.declared.action.Action.{Action}
use Rattle.route_events.specs.declared.request.Request.{Request}
use Rattle.route_events.specs.Journal.{Entry, Happened, Cut, Taken, Journal, newest_moment, step_count}
use Rattle.route_events.specs.Attempts.{has_ended}
use Rattle.route_events.specs.Requests.{waiting}
use Rattle.route_events.specs.Alternatives.{newest_age}
use Rattle.route_events.specs.Dispatch.{dispatch}
use Rattle.route_events.specs.Frames.{octets_on, deliveries}
use Rattle.route_events.specs.Step.{IsRun, refusal, with_actions, part_effects, with_part, with_fact, settle, settled, follow, step, run, newest_actions, actions}
use Rattle.route_events.proofs.Quiet.{Quiet, rests_still}
use Rattle.route_events.proofs.Settles.{settle_nothing}
use Rattle.route_events.proofs.Sound.{used_of, input_open}
use Rattle.route_events.proofs.Parts.{IsBehind, AreBehind, all_behind, ended_part}
use Rattle.route_events.proofs.Runs.{IsSettled, fact_is, follow_is, each}
use Rattle.route_events.proofs.Deliveries.{drop_front, deliveries_both}
use Rattle.route_events.proofs.PartsKeep.{follow_append, octets_settled, octets_follow, octets_input, octets_step, moment_settled, moment_follow, age_settled, age_follow, never_cut, open_unclosed}
use Rattle.route_events.proofs.Pieces.{Pieced, Pieces, Further, pieced_same}
use Rattle.route_events.proofs.PiecesDone.{settled_same, follow_same, actions_same}
use Rattle.route_events.proofs.PiecesLater.{steps_step, runs_same}

quiet_input : (j : Journal) (now c : ℕ) (bytes : List ℕ) → newest_moment j ≡ now → Quiet j (Happened now (Input c bytes) true ∷ j) now
quiet_input j now c bytes at = record {
  moment_same = sym at;
  requests_same = refl;
  connections_same = refl;
  authority_same = λ c o. refl;
  routes_same = λ o. refl;
  usable_same = λ q r. refl;
  busy_stays = λ d h. h;
  pending_stays = λ o r h. h;
}

-- octets that come at the moment of a settled journal settle nothing
input_nothing : (j : Journal) (now c : ℕ) (bytes : List ℕ) → IsSettled j → newest_moment j ≡ now → settled (with_fact j now (Input c bytes)) now ≡ Happened now (Input c bytes) true ∷ j
input_nothing j now c bytes was at =
    settle_nothing (Happened now (Input c bytes) true ∷ j) now (waiting j)
    (λ q found. rests_still j (Happened now (Input c bytes) true ∷ j) now q (quiet_input j now c bytes at) (subst (λ m. dispatch j q m ≡ []) at (was.rests q found)))

pub pieces_pieced : (j : Journal) (t c : ℕ) (a b : List ℕ) → IsSettled j → refusal j t (Input c a) ≡ None → refusal (step j t (Input c a)) t (Input c b) ≡ None →
    Pieced (step (step j t (Input c a)) t (Input c b)) (step j t (Input c (a ++ b)))
pieces_pieced j t c a b was free_a free_b =
    let x : List ℕ = octets_on j c in
    let first : List Entry = deliveries t c (octets_on j c) a in
    let rest : List Entry = deliveries t c (octets_on j c ++ a) b in
    let behind_first : AreBehind t c (deliveries t c (octets_on j c) a) = all_behind t c (octets_on j c) a in
    let behind_rest : AreBehind t c (deliveries t c (octets_on j c ++ a) b) = all_behind t c (octets_on j c ++ a) b in
    let begun : Journal = settled (with_fact j t (Input c a)) t in
    let k : Journal = follow begun t first in
    let used : has_ended j c ≡ true = used_of j c (input_open j t c a free_a) was.sound in
    let k_is : IsSettled k = follow_is begun t c first behind_first (ended_part j t (Happened t (Input c a) true) c used) (fact_is j t (Input c a) free_a was) in
    let at_begun : newest_moment begun ≡ t = moment_settled j t (Happened t (Input c a) true) in
    let at : newest_moment k ≡ t = moment_follow begun t c first behind_first at_begun in
    let old_begun : newest_age begun ≡ 0 = age_settled j t (Happened t (Input c a) true) in
    let old : newest_age k ≡ 0 = age_follow begun t c first behind_first old_begun in
    let octets : octets_on k c ≡ octets_on j c ++ a = octets_follow begun t c first c behind_first ∙ octets_settled j t (Happened t (Input c a) true) c ∙ octets_input j t c a in
    let going : too_large_of (octets_on j c ++ a) ≡ None = never_cut begun t c (octets_on j c) a (open_unclosed k c (input_open k t c b free_b)) in
    let one : Journal = settled (with_fact j t (Input c (a ++ b))) t in
    let both : Pieced begun one = settled_same (with_fact j t (Input c a)) (with_fact j t (Input c (a ++ b))) t (Pieces t c a (a ++ b) true (pieced_same j)) in
    let k_both : Pieced (Happened t (Input c b) true ∷ k) (follow one t first) = Further t c b true at old (follow_same begun one t c first behind_first both) in
    let k_rest : Pieced (follow (Happened t (Input c b) true ∷ k) t rest) (follow (follow one t first) t rest) = follow_same (Happened t (Input c b) true ∷ k) (follow one t first) t c rest behind_rest k_both in
    let left : follow (settled (with_fact k t (Input c b)) t) t (deliveries t c (octets_on k c) b) ≡ follow (Happened t (Input c b) true ∷ k) t rest =
    ap (λ (y : List ℕ). follow (settled (with_fact k t (Input c b)) t) t (deliveries t c y b)) octets ∙ ap (λ (i : Journal). follow i t rest) (input_nothing k t c b k_is at) in
    let right : follow one t (deliveries t c (octets_on j c) (a ++ b)) ≡ follow (follow one t first) t rest =
    ap (follow one t) (deliveries_both t c (octets_on j c) a b going) ∙ follow_append one t first rest in
    subst (λ (i : Journal). Pieced i (step j t (Input c (a ++ b)))) (sym left) (subst (Pieced (follow (Happened t (Input c b) true ∷ k) t rest)) (sym right) k_rest)

-- the actions of a step stand behind those before it

abbrev AddsTo : Journal → Journal → Type 0
AddsTo j k = actions k ≡ actions j ++ newest_actions k

adds_with : (j k : Journal) (as' : List Action) → AddsTo j k → AddsTo j (with_actions k as')
adds_with j k [] h = h
adds_with j k (a ∷ as') h = adds_with j (Taken a ∷ k) as' (ap (λ (xs : List Action). xs ++ a ∷ []) h ∙ append_assoc (actions j) (newest_actions k) (a ∷ []))

adds_settle : (j k : Journal) (now : ℕ) (qs : List Request) → AddsTo j k → AddsTo j (settle k now qs)
adds_settle j k now [] h = h
adds_settle j k now (q ∷ qs) h = adds_settle j (with_actions k (dispatch k q now)) now qs (adds_with j k (dispatch k q now) h)

adds_behind : (j k : Journal) (now conn : ℕ) (part : Entry) → IsBehind now conn part → AddsTo j k → AddsTo j (part ∷ k)
adds_behind j k now conn (Happened moment (Delivered to head payload) false) behind h = h
adds_behind j k now conn (Cut moment to count) behind h = h
adds_behind j k now conn _ behind h = absurd behind

adds_part : (j k : Journal) (now : ℕ) (part : Entry) → AddsTo j (part ∷ k) → AddsTo j (settled (with_part k now part) now)
adds_part j k now part h = adds_settle j (with_part k now part) now (waiting (with_part k now part)) (adds_with j (part ∷ k) (part_effects k now part) h)

adds_follow : (j k : Journal) (now conn : ℕ) (parts : List Entry) → AreBehind now conn parts → AddsTo j k → AddsTo j (follow k now parts)
adds_follow j k now conn [] behind h = h
adds_follow j k now conn (part ∷ parts) behind h =
    adds_follow j (settled (with_part k now part) now) now conn parts behind.1 (adds_part j k now part (adds_behind j k now conn part behind.0 h))

input_adds : (j : Journal) (t c : ℕ) (a : List ℕ) → AddsTo j (step j t (Input c a))
input_adds j t c a =
    adds_follow j (settled (with_fact j t (Input c a)) t) t c (deliveries t c (octets_on j c) a) (all_behind t c (octets_on j c) a)
    (adds_part j j t (Happened t (Input c a) true) (sym (append-nil (actions j))))

cancel_front : {X : Type 0} (xs ys zs : List X) → xs ++ ys ≡ xs ++ zs → ys ≡ zs
cancel_front xs ys zs e = sym (drop_front xs ys) ∙ ap (drop (length xs)) e ∙ drop_front xs zs

pub pieces_join : (j : Journal) (t c : ℕ) (a b : List ℕ) → IsRun j → refusal j t (Input c a) ≡ None → refusal (step j t (Input c a)) t (Input c b) ≡ None →
    newest_actions (step j t (Input c a)) ++ newest_actions (step (step j t (Input c a)) t (Input c b)) ≡ newest_actions (step j t (Input c (a ++ b)))
pieces_join j t c a b is free_a free_b =
    let k : Journal = step j t (Input c a) in
    let same : actions (step (step j t (Input c a)) t (Input c b)) ≡ actions (step j t (Input c (a ++ b))) = actions_same (pieces_pieced j t c a b (each is) free_a free_b) in
    let two : actions (step (step j t (Input c a)) t (Input c b)) ≡ actions j ++ (newest_actions (step j t (Input c a)) ++ newest_actions (step (step j t (Input c a)) t (Input c b))) =
    input_adds k t c b ∙ ap (λ (as' : List Action). as' ++ newest_actions (step k t (Input c b))) (input_adds j t c a) ∙ append_assoc (actions j) (newest_actions k) (newest_actions (step k t (Input c b))) in
    cancel_front (actions j) _ _ (sym two ∙ same ∙ input_adds j t c (a ++ b))

-- and from then on all actions are the same, while the steps last
pub pieces_later : (j : Journal) (t c : ℕ) (a b : List ℕ) (events : List (ℕ × Fact)) → IsRun j → refusal j t (Input c a) ≡ None → refusal (step j t (Input c a)) t (Input c b) ≡ None →
    step_count j + 2 + length events ≤ 16777215 → actions (run (step (step j t (Input c a)) t (Input c b)) events) ≡ actions (run (step j t (Input c (a ++ b))) events)
pieces_later j t c a b events is free_a free_b few =
    let k : Journal = step j t (Input c a) in
    let two : Journal = step k t (Input c b) in
    let one : Journal = step j t (Input c (a ++ b)) in
    runs_same two one events (record { pieced = pieces_pieced j t c a b (each is) free_a free_b; octets = octets })
    (omega (arith, few, steps_step k t (Input c b), steps_step j t (Input c a))) (omega (arith, steps_step k t (Input c b), steps_step j t (Input c a), steps_step j t (Input c (a ++ b))))
  where
    by_number : (b' : Bool) (n : ℕ) → cond b' (cond b' (octets_on j n ++ a) (octets_on j n) ++ b) (cond b' (octets_on j n ++ a) (octets_on j n)) ≡ cond b' (octets_on j n ++ (a ++ b)) (octets_on j n)
    by_number true n = append_assoc (octets_on j n) a b
    by_number false n = refl

    octets : (n : ℕ) → octets_on (step (step j t (Input c a)) t (Input c b)) n ≡ octets_on (step j t (Input c (a ++ b))) n
    octets n =
        octets_step (step j t (Input c a)) t (Input c b) n
        ∙ ap (λ (x : List ℕ). cond (nat_eq c n) (x ++ b) x) (octets_step j t (Input c a) n)
        ∙ by_number (nat_eq c n) n
        ∙ sym (octets_step j t (Input c (a ++ b)) n)
