-- The endpoints by following are those of the walk, and each has its source.
use Rattle.std.proofs.Common.{◌≡◌, ◌⊎◌, ℕ, true, List, [], ◌∷◌, ◌++◌, get_or, map, filter, All, Contains, Option, None, Some, refl, sym, ◌∙◌, ap, inl, inr, arith}
use Rattle.std.proofs.lemmas.List.Elements.{All-nil, All-cons, All-append, All-map, All-same, All-contains, All-contains_itself, All-filter, filter_passes}
use Rattle.alt_base.proofs.Conjunctions.{both}
use Rattle.origin_values.specs.declared.origin.Origin.{Origin}
use Rattle.origin_values.specs.declared.protos.Protos.{Protos}
use Rattle.svcb_wire.specs.declared.svcb.Svcb.{Svcb}
use Rattle.svcb_wire.specs.Usable.{is_consistent, is_compatible}
use Rattle.alias_chain.specs.declared.endpoint.Endpoint.{Endpoint}
use Rattle.alias_chain.specs.Walk.{NameOf, AnswerMap, IsWalk, end_of}
use Rattle.alias_chain.specs.Endpoints.{can_use, endpoint_of, own_endpoint, appended, records_of, IsByPriority, AreOfWalk, AreEndpoints, IsOfRecord, IsAppended}
use Rattle.alias_chain.specs.Following.{query_for, Ended, follow, ascending, of_records, itself, at_end, from_query, endpoints_by}
use Rattle.alias_chain.proofs.Names.{AllDiffer}
use Rattle.alias_chain.proofs.Order.{stable_from, sorted_from, ascending_rises, ascending_keeps, ascending_all, sorts}
use Rattle.alias_chain.proofs.Walks.{query_reads, query_says, one_name, one_targets, names_before, FollowsTo, follow_says, follow_finds}

abbrev priority_of : Svcb → ℕ
priority_of r = r.priority

in_order : (records : List Svcb) → IsByPriority records (ascending priority_of records)
in_order records = record {
  ascending = sorted_from priority_of (ascending priority_of records) (ascending_rises priority_of records);
  kept = stable_from priority_of records (ascending priority_of records) (ascending_keeps priority_of records);
}

order_is : (records sorted : List Svcb) → IsByPriority records sorted → sorted ≡ ascending priority_of records
order_is records sorted by = sorts priority_of records sorted by.ascending by.kept

itself_is : (port : ℕ) (name : NameOf) (targets : List NameOf) → itself port (names_before name targets) (end_of name targets) ≡ appended port name targets
itself_is port name [] = refl
itself_is port name (target ∷ targets) = refl

one_differs : (name : NameOf) → AllDiffer (name ∷ [])
one_differs name = λ i j d h k. absurd (omega arith)

of_walk : (answers : AnswerMap) (supported : Protos) (origin : Origin) (name : NameOf) (end : Ended) → query_for origin.scheme origin.host origin.port ≡ Some name → follow answers 9 [] name ≡ Some end
    → AreEndpoints answers supported origin (at_end answers supported origin.port (Some end))
of_walk answers supported origin name end asked found =
    let to : FollowsTo answers 9 [] name end = follow_says answers 9 [] name end found (one_differs name) in
    let last = end_of name to.targets in
    let records = filter (can_use supported) (records_of (answers last)) in
    inl (
      name,
      (
        to.targets,
        record {
          walk = record { asked = query_says origin origin.scheme origin.host name refl refl asked; led = to.led; few = (let few = to.few in omega arith); differ = to.differ };
          sorted = ascending priority_of records;
          by_priority = in_order records;
          list =
              ap (λ n. of_records supported origin.port n (records_of (answers n)) ++ itself origin.port end.0 n) to.name_is
              ∙ ap (λ b. of_records supported origin.port last (records_of (answers last)) ++ itself origin.port b last) to.before_is
              ∙ ap (λ w. of_records supported origin.port last (records_of (answers last)) ++ w) (itself_is origin.port name to.targets);
        },
      ),
    )

no_walk : (answers : AnswerMap) (origin : Origin) (name : NameOf) → query_for origin.scheme origin.host origin.port ≡ Some name → follow answers 9 [] name ≡ None → (v : NameOf) (vs : List NameOf) → IsWalk answers origin v vs → ⊥
no_walk answers origin name asked found v vs walk =
    let same : v ≡ name = (let read = query_reads origin v walk.asked in cc (read, asked)) in
    let few = walk.few in
    let finds = follow_finds answers vs 9 [] v walk.led (omega arith) walk.differ in
    let here : follow answers 9 [] name ≡ Some (names_before v vs, end_of v vs) = ap (follow answers 9 []) (sym same) ∙ finds in
    absurd (cc (here, found))

by_found : (answers : AnswerMap) (supported : Protos) (origin : Origin) (name : NameOf) → query_for origin.scheme origin.host origin.port ≡ Some name → (found : Option Ended) → follow answers 9 [] name ≡ found
    → AreEndpoints answers supported origin (at_end answers supported origin.port found)
by_found answers supported origin name asked None is = inr (no_walk answers origin name asked is, refl)
by_found answers supported origin name asked (Some end) is = of_walk answers supported origin name end asked is

by_query : (answers : AnswerMap) (supported : Protos) (origin : Origin) (query : Option NameOf) → query_for origin.scheme origin.host origin.port ≡ query
    → AreEndpoints answers supported origin (from_query answers supported origin.port query)
by_query answers supported origin None is = inr (λ v vs walk. (let read = query_reads origin v walk.asked in absurd (cc (read, is))), refl)
by_query answers supported origin (Some name) is = by_found answers supported origin name is (follow answers 9 [] name) refl

pub endpoints_are : (answers : AnswerMap) (supported : Protos) (origin : Origin) → AreEndpoints answers supported origin (endpoints_by answers supported origin)
unfolding endpoints_by
endpoints_are answers supported origin = by_query answers supported origin (query_for origin.scheme origin.host origin.port) refl

-- one list

abbrev listed : Protos → ℕ → NameOf → List NameOf → List Svcb → List Endpoint
listed supported port name targets sorted = map (endpoint_of supported port (end_of name targets)) sorted ++ appended port name targets

list_is : (answers : AnswerMap) (supported : Protos) (origin : Origin) (name : NameOf) (targets : List NameOf) (all : List Endpoint) → AreOfWalk answers supported origin name targets all
    → all ≡ listed supported origin.port name targets (ascending priority_of (filter (can_use supported) (records_of (answers (end_of name targets)))))
list_is answers supported origin name targets all of =
    of.list ∙ ap (listed supported origin.port name targets) (order_is (filter (can_use supported) (records_of (answers (end_of name targets)))) of.sorted of.by_priority)

of_one_walk : (answers : AnswerMap) (supported : Protos) (origin : Origin) (v w : NameOf) (vs ws : List NameOf) (all others : List Endpoint) → v ≡ w → vs ≡ ws
    → AreOfWalk answers supported origin v vs all → AreOfWalk answers supported origin w ws others → all ≡ others
of_one_walk answers supported origin v w vs ws all others e f a b =
    list_is answers supported origin v vs all a
    ∙ ap (λ n. listed supported origin.port n vs (ascending priority_of (filter (can_use supported) (records_of (answers (end_of n vs)))))) e
    ∙ ap (λ ts. listed supported origin.port w ts (ascending priority_of (filter (can_use supported) (records_of (answers (end_of w ts)))))) f
    ∙ sym (list_is answers supported origin w ws others b)

pub one_list : (answers : AnswerMap) (supported : Protos) (origin : Origin) (all others : List Endpoint) → AreEndpoints answers supported origin all → AreEndpoints answers supported origin others → all ≡ others
one_list answers supported origin all others (inl a) (inl b) =
    of_one_walk answers supported origin a.0 b.0 a.1.0 b.1.0 all others
    (one_name answers origin a.0 b.0 a.1.0 b.1.0 a.1.1.walk b.1.1.walk)
    (one_targets answers origin a.0 b.0 a.1.0 b.1.0 a.1.1.walk b.1.1.walk) a.1.1 b.1.1
one_list answers supported origin all others (inl a) (inr b) = absurd (b.0 a.0 a.1.0 a.1.1.walk)
one_list answers supported origin all others (inr a) (inl b) = absurd (a.0 b.0 b.1.0 b.1.1.walk)
one_list answers supported origin all others (inr a) (inr b) = a.1 ∙ sym b.1

-- sources

abbrev pub HasSource : AnswerMap → Protos → Origin → Endpoint → Type 0
HasSource answers supported origin endpoint = IsOfRecord answers supported origin endpoint ⊎ IsAppended answers origin endpoint

appended_has : (answers : AnswerMap) (supported : Protos) (origin : Origin) (name : NameOf) (targets : List NameOf) → IsWalk answers origin name targets → All (HasSource answers supported origin) (appended origin.port name targets)
appended_has answers supported origin name [] walk = All-nil (HasSource answers supported origin)
appended_has answers supported origin name (target ∷ targets) walk =
    All-cons (HasSource answers supported origin) (own_endpoint origin.port (end_of target targets)) []
    (inr (record { name = name; target = target; targets = targets; walk = walk; is = refl })) (All-nil (HasSource answers supported origin))

records_have : (answers : AnswerMap) (supported : Protos) (origin : Origin) (name : NameOf) (targets : List NameOf) → IsWalk answers origin name targets
    → All (λ r. HasSource answers supported origin (endpoint_of supported origin.port (end_of name targets) r)) (filter (can_use supported) (records_of (answers (end_of name targets))))
records_have answers supported origin name targets walk =
    let records = records_of (answers (end_of name targets)) in
    λ k d h.
    let r = get_or (filter (can_use supported) records) k d in
    let among : Contains records r = All-filter (can_use supported) (Contains records) records (All-contains_itself records) k d h in
    let used : can_use supported r ≡ true = filter_passes (can_use supported) records k d h in
    let parts = both (is_consistent r) (is_compatible supported r) used in
    inl (record { name = name; targets = targets; walk = walk; source = r; among = among; consistent = parts.0; compatible = parts.1; is = refl })

all_have : (answers : AnswerMap) (supported : Protos) (origin : Origin) (all : List Endpoint) → AreEndpoints answers supported origin all → All (HasSource answers supported origin) all
all_have answers supported origin all (inr none) = All-same (HasSource answers supported origin) all [] none.1 (All-nil (HasSource answers supported origin))
all_have answers supported origin all (inl of) =
    let P = HasSource answers supported origin in
    let name = of.0 in
    let targets = of.1.0 in
    let f = endpoint_of supported origin.port (end_of name targets) in
    let usable = filter (can_use supported) (records_of (answers (end_of name targets))) in
    let sorted = ascending priority_of usable in
    All-same P all (map f sorted ++ appended origin.port name targets) (list_is answers supported origin name targets all of.1.1)
    (All-append P (map f sorted) (appended origin.port name targets)
    (All-map P f sorted (ascending_all (λ r. P (f r)) priority_of usable (records_have answers supported origin name targets of.1.1.walk)))
    (appended_has answers supported origin name targets of.1.1.walk))

pub source_of : (answers : AnswerMap) (supported : Protos) (origin : Origin) (all : List Endpoint) (endpoint : Endpoint) → AreEndpoints answers supported origin all → Contains all endpoint → HasSource answers supported origin endpoint
source_of answers supported origin all endpoint are among = All-contains (HasSource answers supported origin) all endpoint (all_have answers supported origin all are) among
