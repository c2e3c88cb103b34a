-- What a router counts is how much of each there is by the journal.
use Rattle.std.proofs.Common.{◌≡◌, ℕ, ◌+◌, ◌<◌, ◌≤◌, Bool, true, false, cond, not, ◌&&◌, ◌||◌, List, [], ◌∷◌, map, filter, length, min, sum, sum_by, Option, Some, None, is_some, refl, ap, sym, ◌∙◌, subst, arith, true≢false}
use Rattle.std.specs.List.{list_any, AllByRecursion, IsDistinct}
use Rattle.std.proofs.lemmas.Bool.{or_from, not-true}
use Rattle.std.proofs.lemmas.List.{length-map}
use Rattle.std.proofs.lemmas.List.Sums.{sum_by-cons, length-filter}
use Rattle.alt_base.proofs.Booleans.{first_of_both, second_of_both, first_of_neither, second_of_neither, one_truth}
use Rattle.alt_base.proofs.Lists.{cons_not_nil}
use Rattle.alias_chain.specs.declared.held.Held.{Held}
use Rattle.alias_chain.specs.Held.{is_in_force, in_force, body_at}
use Rattle.alias_chain.specs.Walk.{NameOf}
use Rattle.answer_store.specs.declared.store.AnswerStore.{AnswerStore}
use Rattle.answer_store.specs.Bodies.{Kind, A, Aaaa, Https, Body, Addresses4, Addresses6, Records}
use Rattle.answer_store.specs.Contents.{IsCount}
use Rattle.answer_store.proofs.OfKinds.{some_of, one_sum}
use Rattle.dns_names.specs.Names.{name_eq}
use Rattle.dns_names.proofs.SameNames.{name_self, one_name}
use Rattle.network_cache.specs.declared.cache.Cache.{Cache}
use Rattle.network_cache.specs.declared.kept.Kept.{Kept}
use Rattle.network_cache.specs.Contents.{kept, live as cache_live, IsTotal}
use Rattle.network_cache.specs.Freshness.{is_fresh}
use Rattle.network_cache.specs.Origins.{are_distinct}
use Rattle.network_cache.proofs.Origins.{turned_not}
use Rattle.network_cache.proofs.Totals.{one_total_of}
use Rattle.route_choice.specs.declared.broken.Broken.{Broken}
use Rattle.route_choice.specs.Contents.{kept_failures}
use Rattle.route_choice.specs.Pairs.{IsNumberOf}
use Rattle.route_choice.specs.Pairs as pairs
use Rattle.route_choice.proofs.Lookups.{not_barred}
use Rattle.route_choice.proofs.PairLists.{one_number_of}
use Rattle.route_choice.proofs.Same.{turned, turned_not as turned_neither}
use Rattle.origin_values.specs.Equality.{origin_eq}
use Rattle.origin_values.specs.declared.origin.Origin.{Origin}
use Rattle.conn_states.specs.Record.{Record}
use Rattle.conn_states.specs.Said.{said}
use Rattle.route_events.specs.declared.action.Action.{Action}
use Rattle.route_events.specs.declared.action.Action.TheVariants as action
use Rattle.route_events.specs.declared.answer.AnswerBody.{AnswerBody}
use Rattle.route_events.specs.declared.route.Route.{Route}
use Rattle.route_events.specs.Alternatives.{live}
use Rattle.route_events.specs.Answers.{addresses4, addresses6, records, newest_answer, answer_at}
use Rattle.route_events.specs.Authority.{record_of}
use Rattle.route_events.specs.Backoff.{is_barred_by, is_broken}
use Rattle.route_events.specs.Connections.{open_connections}
use Rattle.route_events.specs.Counts.{answered_names, live_count, answer_count, broken_count, capped, stats}
use Rattle.route_events.specs.Distinct.{are_apart, advertised_origins, pair_eq, attempted_routes}
use Rattle.route_events.specs.Journal.{Journal, newest_moment}
use Rattle.route_events.specs.Records.{ConnectionRecord}
use Rattle.route_events.specs.Requests.{waiting}
use Rattle.route_events.proofs.AnswersInWords.{not_answered, names_apart}
use Rattle.route_events.proofs.Apart.{fewer_apart}
use Rattle.route_events.proofs.Elsewhere.{not_advertised, not_attempted, origins_apart, routes_apart}
use Rattle.request_dispatch.specs.declared.tables.Tables.{Tables}
use Rattle.request_dispatch.specs.declared.waiting.Waiting.{Waiting}
use Rattle.request_dispatch.specs.RequestTable.{requests_of}
use Rattle.request_dispatch.proofs.Listing.{any_passed, any_same_in}
use Rattle.router_core.specs.declared.router.Router.{Router}
use Rattle.router_core.specs.Asking.{IsCounted}
use Rattle.router_core.specs.Holds.{Hold}
use Rattle.router_core.specs.StepBecomes.{course_of}
use Rattle.router_core.specs.StoredAnswers.{as_kind, answer_of, HoldsAnswers}
use Rattle.router_core.proofs.PartsDone.{Knows, barred_as}
use Rattle.router_core.proofs.Resolving.{newest_as}

-- live alternatives

same_apart : (os : List Origin) → are_distinct os ≡ are_apart origin_eq os
same_apart [] = refl
same_apart (o ∷ os) = ap (λ b. not (list_any (origin_eq o) os) && b) (same_apart os)

none_turned : (o : Origin) (os : List Origin) → list_any (origin_eq o) os ≡ false → list_any (λ p. origin_eq p o) os ≡ false
none_turned o [] none = refl
none_turned o (p ∷ ps) none =
    or_from (origin_eq p o) (list_any (λ q. origin_eq q o) ps) (turned_not o p (first_of_neither (origin_eq o p) (list_any (origin_eq o) ps) none))
    (none_turned o ps (second_of_neither (origin_eq o p) (list_any (origin_eq o) ps) none))

none_mapped : {X Y : Type 0} (f : X → Y) (xs : List X) → map f xs ≡ [] → xs ≡ []
none_mapped f [] e = refl
none_mapped f (x ∷ xs) e = absurd (cons_not_nil (f x) (map f xs) e)

summed : (f g : Origin → ℕ) (os : List Origin) → ((o : Origin) → f o ≡ g o) → sum (map f os) ≡ sum_by g os
summed f g [] same = refl
summed f g (o ∷ os) same = sum_by-cons (λ (n : ℕ). n) (f o) (map f os) ∙ (λ i. same o i + summed f g os same i) ∙ sym (sum_by-cons g o os)

total_is : (cache : Cache) (k : Journal) (now : ℕ) → ((o : Origin) → cache_live cache o now ≡ live k o now) → ((o : Origin) → filter (is_fresh now) (kept cache o) ≡ kept cache o) → IsTotal cache now (live_count k now)
total_is cache k now same none_ended = record {
  origins = advertised_origins k;
  distinct = same_apart (advertised_origins k) ∙ origins_apart k;
  elsewhere = λ o none. sym (none_ended o)
      ∙ none_mapped (λ (x : Kept). x.alt) (filter (is_fresh now) (kept cache o)) (same o ∙ not_advertised k o now (none_turned o (advertised_origins k) none));
  sum = summed (λ o. length (live k o now)) (λ o. length (cache_live cache o now)) (advertised_origins k) (λ o. ap length (sym (same o)));
}

-- broken routes

pair_turned : (p q : Origin × Route) → pair_eq q p ≡ pair_eq p q
pair_turned p q = by_test (pair_eq p q) refl
  where
    by_test : (b : Bool) → pair_eq p q ≡ b → pair_eq q p ≡ b
    by_test true e = turned p.0 q.0 p.1 q.1 e
    by_test false e = turned_neither p.0 q.0 p.1 q.1 e

pairs_apart : (ps : List (Origin × Route)) → pairs.are_distinct ps ≡ are_apart pair_eq ps
pairs_apart [] = refl
pairs_apart (p ∷ ps) =
    (λ i. not (any_same_in (λ q. pair_eq q p) (pair_eq p) ps (λ q found. pair_turned p q) i) && pairs_apart ps i)

number_is : (k : Journal) (now : ℕ) → IsNumberOf (λ o r. is_broken k o r now) (broken_count k now)
number_is k now = record {
  pairs = attempted_routes k;
  distinct = pairs_apart (attempted_routes k) ∙ routes_apart k;
  elsewhere = λ o r none. ap (λ fs. is_barred_by fs r now) (not_attempted k o r none) ∙ not_barred r now;
  count = length-filter (λ (p : Origin × Route). is_broken k p.0 p.1 now) (attempted_routes k);
}

-- answers in force

all_none : {X : Type 0} (p : X → Bool) (xs : List X) → list_any p xs ≡ false → AllByRecursion (λ y. p y ≡ false) xs
all_none p [] none = tt
all_none p (x ∷ xs) none = (first_of_neither (p x) (list_any p xs) none, all_none p xs (second_of_neither (p x) (list_any p xs) none))

apart_distinct : {X : Type 0} (same : X → X → Bool) (xs : List X) → are_apart same xs ≡ true → IsDistinct same xs
unfolding IsDistinct
apart_distinct same [] apart = tt
apart_distinct same (x ∷ xs) apart = (
  all_none (same x) xs (not-true (list_any (same x) xs) (first_of_both (not (list_any (same x) xs)) (are_apart same xs) apart)),
  apart_distinct same xs (second_of_both (not (list_any (same x) xs)) (are_apart same xs) apart),
)

name_turned : (m n : NameOf) → name_eq m n ≡ name_eq n m
name_turned m n = one_truth (name_eq m n) (name_eq n m) (λ e. ap (λ x. name_eq n x) (one_name m n e) ∙ name_self n) (λ e. ap (λ x. name_eq m x) (one_name n m e) ∙ name_self m)

-- a name is one of those that pass where it is one of all and passes
passes_among : (p : NameOf → Bool) (name : NameOf) (ns : List NameOf) → list_any (name_eq name) (filter p ns) ≡ (list_any (name_eq name) ns && p name)
passes_among p name ns = any_passed p (name_eq name) ns ∙ by_names ns
  where
    nothing : (b : Bool) → (b && false) ≡ false
    nothing true = refl
    nothing false = refl

    -- whether one name passes and is this one
    one : (m : NameOf) (b : Bool) → name_eq name m ≡ b → (p m && b) ≡ (b && p name)
    one m true e = alone (p m) ∙ ap p (sym (one_name name m e))
      where
        alone : (b : Bool) → (b && true) ≡ b
        alone true = refl
        alone false = refl
    one m false e = nothing (p m)

    either : (a c d : Bool) → ((a && d) || (c && d)) ≡ ((a || c) && d)
    either true true true = refl
    either true true false = refl
    either true false true = refl
    either true false false = refl
    either false c d = refl

    by_names : (ms : List NameOf) → list_any (λ m. p m && name_eq name m) ms ≡ (list_any (name_eq name) ms && p name)
    by_names [] = refl
    by_names (m ∷ ms) = (λ i. one m (name_eq name m) refl i || by_names ms i) ∙ either (name_eq name m) (list_any (name_eq name) ms) (p name)

module _ {B : Type 0} (brings : AnswerBody → Option B) where
  some_body : (now : ℕ) (held : Option (Held B)) → is_some (body_at now held) ≡ is_some (in_force now held)
  some_body now None = refl
  some_body now (Some h) = by_test (is_in_force now h)
    where
      by_test : (b : Bool) → is_some (cond b (Some h.body) None) ≡ is_some (cond b (Some h) None)
      by_test true = refl
      by_test false = refl

  abbrev answered_at : Journal → ℕ → NameOf → Bool
  answered_at k now name = is_some (answer_at brings k now name)

  -- a name that has an answer in force was answered
  names_answered : (k : Journal) (now : ℕ) (name : NameOf) → (list_any (name_eq name) (answered_names k) && answered_at k now name) ≡ answered_at k now name
  names_answered k now name = by_test (list_any (name_eq name) (answered_names k)) refl
    where
      same : list_any (λ n. name_eq n name) (answered_names k) ≡ list_any (name_eq name) (answered_names k)
      same = any_same_in (λ n. name_eq n name) (name_eq name) (answered_names k) (λ n found. name_turned n name)

      by_test : (b : Bool) → list_any (name_eq name) (answered_names k) ≡ b → (b && answered_at k now name) ≡ answered_at k now name
      by_test true e = refl
      by_test false e = sym (ap (λ w. is_some (body_at now w)) (not_answered brings k name (same ∙ e)))

  members_are : (k : Journal) (now : ℕ) (name : NameOf) → list_any (name_eq name) (filter (answered_at k now) (answered_names k)) ≡ is_some (in_force now (newest_answer brings k name))
  members_are k now name = passes_among (answered_at k now) name (answered_names k) ∙ names_answered k now name ∙ some_body now (newest_answer brings k name)

abbrev names_of : Journal → ℕ → Kind → List NameOf
names_of k now A = filter (answered_at addresses4 k now) (answered_names k)
names_of k now Aaaa = filter (answered_at addresses6 k now) (answered_names k)
names_of k now Https = filter (answered_at records k now) (answered_names k)

kinds_apart : (k : Journal) (now : ℕ) (kind : Kind) → IsDistinct name_eq (names_of k now kind)
kinds_apart k now A = apart_distinct name_eq (names_of k now A) (fewer_apart name_eq (answered_at addresses4 k now) (answered_names k) (names_apart k))
kinds_apart k now Aaaa = apart_distinct name_eq (names_of k now Aaaa) (fewer_apart name_eq (answered_at addresses6 k now) (answered_names k) (names_apart k))
kinds_apart k now Https = apart_distinct name_eq (names_of k now Https) (fewer_apart name_eq (answered_at records k now) (answered_names k) (names_apart k))

-- by the answers of any kind
some_as : {B : Type 0} (body : B → Body) (brings : AnswerBody → Option B) (k : Journal) (now : ℕ) (name : NameOf) → is_some (in_force now (newest_answer brings k name)) ≡ is_some (in_force now (newest_answer (as_kind body brings) k name))
some_as body brings k now name = some_of body now (newest_answer brings k name) ∙ ap (λ w. is_some (in_force now w)) (sym (newest_as body brings k name))

kinds_are : (k : Journal) (now : ℕ) (name : NameOf) (kind : Kind) → list_any (name_eq name) (names_of k now kind) ≡ is_some (in_force now (answer_of k name kind))
kinds_are k now name A = members_are addresses4 k now name ∙ some_as Addresses4 addresses4 k now name
kinds_are k now name Aaaa = members_are addresses6 k now name ∙ some_as Addresses6 addresses6 k now name
kinds_are k now name Https = members_are records k now name ∙ some_as Records records k now name

count_is : (store : AnswerStore) (k : Journal) (now : ℕ) → HoldsAnswers store k → newest_moment k ≤ now → IsCount store now (answer_count k now)
count_is store k now holds later = record {
  names = names_of k now;
  distinct = kinds_apart k now;
  members = λ name kind. kinds_are k now name kind ∙ ap is_some (sym (holds name kind now later));
  sum = refl;
}

-- all of them

-- a length is at most the greatest number of 64 bits
pub fits : (x n : ℕ) → x ≡ n → x < 18446744073709551616 → x ≡ min n 18446744073709551615
fits x n same within = omega arith

connections_are : (t : Tables) (k : Journal) → Hold t k → length t.connections ≡ length (open_connections k)
connections_are t k hold = sym (length-map t.connections said) ∙ ap length hold.connections ∙ length-map (open_connections k) (record_of k)

waiting_are : (ws : List Waiting) (k : Journal) → requests_of ws ≡ waiting k → length ws ≡ length (waiting k)
waiting_are ws k asked = sym (length-map ws (λ (w : Waiting). w.request)) ∙ ap length asked

pub counted_is : (router : Router) (k : Journal) (answer : List Action) → Knows (course_of router) k → newest_moment k ≡ router.last → ((o : Origin) → filter (is_fresh router.last) (kept router.alternatives o) ≡ kept router.alternatives o) → IsCounted router answer →
    answer ≡ stats k router.last ∷ []
counted_is router k answer knows moment none_ended is =
    is.is
    ∙ (λ i. action.Stats (alternatives i) (answers_now i) (broken_now i) (capped (connections_are router.tables k knows.tables i)) (capped (waiting_are router.tables.requests.waiting k knows.waiting i)) ∷ [])
  where
    now : ℕ
    now = router.last

    alternatives : is.alternatives ≡ capped (live_count k now)
    alternatives = is.live.1.1 ∙ ap capped (one_total_of router.alternatives now is.live.0 (live_count k now) is.live.1.0 (total_is router.alternatives k now (λ o. knows.alternatives o now (omega (arith, moment))) none_ended))

    answers_now : is.answers ≡ capped (answer_count k now)
    answers_now = is.in_force.1.1 ∙ ap capped (one_sum router.answers now is.in_force.0 (answer_count k now) is.in_force.1.0 (count_is router.answers k now knows.answers (omega (arith, moment))))

    broken_now : is.broken ≡ capped (broken_count k now)
    broken_now =
        is.barred.1.1
        ∙ ap capped (one_number_of (λ o r. is_barred_by (kept_failures router.broken o r) r now) (λ o r. is_broken k o r now) is.barred.0 (broken_count k now) (λ o r. barred_as router.broken k o r now (knows.failures o r)) is.barred.1.0 (number_is k now))
