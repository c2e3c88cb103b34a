-- Aliases followed one by one, and the finished walk.
use Rattle.std.proofs.Common.{◌≡◌, ◌≢◌, ℕ, zero, suc, ◌<◌, Bool, true, false, ◌||◌, cond, List, [], ◌∷◌, ◌++◌, length, Option, None, Some, Result, Ok, Err, refl, sym, ◌∙◌, ap, subst, arith, append_assoc, append-nil}
use Rattle.std.specs.Result.{result_ok}
use Rattle.dns_names.specs.TextReading.{read_text}
use Rattle.dns_names.proofs.TextNames.{read_says}
use Rattle.dns_names.proofs.TextSpelled.{spelled_reads}
use Rattle.origin_values.specs.declared.scheme.Scheme.{Scheme}
use Rattle.origin_values.specs.declared.scheme.Scheme.TheVariants.{Http, Https}
use Rattle.origin_values.specs.declared.host.Host.{Host}
use Rattle.origin_values.specs.declared.host.Host.TheVariants.{Name, V4, V6}
use Rattle.origin_values.specs.declared.origin.Origin.{Origin}
use Rattle.alias_chain.specs.QueryName.{query_text, IsQueryName}
use Rattle.alias_chain.specs.Walk.{NameOf, AnswerMap, alias_of, LeadsAlong, IsWalk, end_of}
use Rattle.alias_chain.specs.Following.{query_for, is_root, is_among, Ended, go_on, follow}
use Rattle.alias_chain.proofs.Names.{AllDiffer, differ_push, not_before}

-- the name that is asked for

pub query_reads : (origin : Origin) (name : NameOf) → IsQueryName origin name → query_for origin.scheme origin.host origin.port ≡ Some name
query_reads origin name asked =
    ap (λ s. query_for s origin.host origin.port) asked.https
    ∙ ap (λ h. query_for Https h origin.port) asked.named
    ∙ ap result_ok (spelled_reads (query_text origin.port asked.host) name asked.spelled)

ok_of : {A E : Type 0} (r : Result A E) (a : A) → result_ok r ≡ Some a → r ≡ Ok a
ok_of (Ok b) a e = cc
ok_of (Err b) a e = absurd (cc)

pub query_says : (origin : Origin) (scheme : Scheme) (host : Host) (name : NameOf) → origin.scheme ≡ scheme → origin.host ≡ host → query_for scheme host origin.port ≡ Some name → IsQueryName origin name
query_says origin Https (Name host) name s h e = record { host = host; https = s; named = h; spelled = read_says (query_text origin.port host) name (ok_of (read_text (query_text origin.port host)) name e) }
query_says origin Https (V4 bytes) name s h e = absurd (cc)
query_says origin Https (V6 bytes) name s h e = absurd (cc)
query_says origin Http host name s h e = absurd (cc)

-- one walk

one_way : (answers : AnswerMap) (name : NameOf) (vs ws : List NameOf) → LeadsAlong answers name vs → LeadsAlong answers name ws → vs ≡ ws
one_way answers name [] [] h k = refl
one_way answers name [] (w ∷ ws) h k = absurd (cc (h, k.0))
one_way answers name (v ∷ vs) [] h k = absurd (cc (h.0, k))
one_way answers name (v ∷ vs) (w ∷ ws) h k =
    let same : v ≡ w = cc (h.0, k.0) in
    let rest : vs ≡ ws = one_way answers v vs ws h.2 (subst (λ n. LeadsAlong answers n ws) (sym same) k.2) in
    cc (same, rest)

pub one_name : (answers : AnswerMap) (origin : Origin) (v w : NameOf) (vs ws : List NameOf) → IsWalk answers origin v vs → IsWalk answers origin w ws → v ≡ w
one_name answers origin v w vs ws h k = let a = query_reads origin v h.asked in let b = query_reads origin w k.asked in cc (a, b)

pub one_targets : (answers : AnswerMap) (origin : Origin) (v w : NameOf) (vs ws : List NameOf) → IsWalk answers origin v vs → IsWalk answers origin w ws → vs ≡ ws
one_targets answers origin v w vs ws h k =
    let same : v ≡ w = one_name answers origin v w vs ws h k in
    one_way answers v vs ws h.led (subst (λ n. LeadsAlong answers n ws) (sym same) k.led)

-- following finds the walk

abbrev pub names_before : NameOf → List NameOf → List NameOf
names_before name [] = []
names_before name (target ∷ targets) = name ∷ names_before target targets

pub record FollowsTo (answers : AnswerMap) (n : ℕ) (before : List NameOf) (name : NameOf) (end : Ended) : Type 0 where
  pub targets : List NameOf
  pub led : LeadsAlong answers name targets
  pub few : length targets < n
  pub before_is : end.0 ≡ before ++ names_before name targets
  pub name_is : end.1 ≡ end_of name targets
  pub differ : AllDiffer (before ++ name ∷ targets)

not_root : (name : NameOf) → is_root name ≡ false → name ≢ []
not_root [] e = absurd (cc)
not_root (l ∷ ls) e = λ f. absurd (cc)

root_not : (name : NameOf) → name ≢ [] → is_root name ≡ false
root_not [] apart = absurd (apart refl)
root_not (l ∷ ls) apart = refl

at_alias : (answers : AnswerMap) (n : ℕ) (before : List NameOf) (name : NameOf) (end : Ended)
    → ((b : List NameOf) (m : NameOf) → follow answers n b m ≡ Some end → AllDiffer (b ++ m ∷ []) → FollowsTo answers n b m end)
    → AllDiffer (before ++ name ∷ []) → (a : Option NameOf) → alias_of (answers name) ≡ a → go_on (follow answers n) before name a ≡ Some end → FollowsTo answers (suc n) before name end
at_alias answers n before name end more differ None is e = record {
  targets = [];
  led = is;
  few = omega arith;
  before_is = let same : end ≡ (before, name) = cc in ap (λ (w : Ended). w.0) same ∙ sym (append-nil before);
  name_is = let same : end ≡ (before, name) = cc in ap (λ (w : Ended). w.1) same;
  differ = differ;
}
at_alias answers n before name end more differ (Some target) is e = by_tests (is_root target) (is_among target (before ++ name ∷ [])) refl refl e
  where
    by_tests : (r t : Bool) → is_root target ≡ r → is_among target (before ++ name ∷ []) ≡ t
        → cond (r || t) None (follow answers n (before ++ name ∷ []) target) ≡ Some end → FollowsTo answers (suc n) before name end
    by_tests true t ir it e = absurd (cc)
    by_tests false true ir it e = absurd (cc)
    by_tests false false ir it e =
        let next = more (before ++ name ∷ []) target e (differ_push (before ++ name ∷ []) target differ it) in
        record {
          targets = target ∷ next.targets;
          led = (is, not_root target ir, next.led);
          few = let few = next.few in omega arith;
          before_is = next.before_is ∙ append_assoc before (name ∷ []) (names_before target next.targets);
          name_is = next.name_is;
          differ = subst AllDiffer (append_assoc before (name ∷ []) (target ∷ next.targets)) next.differ;
        }

pub follow_says : (answers : AnswerMap) (n : ℕ) (before : List NameOf) (name : NameOf) (end : Ended) → follow answers n before name ≡ Some end → AllDiffer (before ++ name ∷ []) → FollowsTo answers n before name end
unfolding follow
follow_says answers zero before name end e differ = absurd (cc)
follow_says answers (suc n) before name end e differ =
    at_alias answers n before name end (λ b m. follow_says answers n b m end) differ (alias_of (answers name)) refl e

pub follow_finds : (answers : AnswerMap) (targets : List NameOf) (n : ℕ) (before : List NameOf) (name : NameOf) → LeadsAlong answers name targets → length targets < n → AllDiffer (before ++ name ∷ targets)
    → follow answers n before name ≡ Some (before ++ names_before name targets, end_of name targets)
unfolding follow
follow_finds answers targets zero before name led few differ = absurd (omega arith)
follow_finds answers [] (suc n) before name led few differ =
    ap (go_on (follow answers n) before name) led ∙ ap (λ b. Some (b, name)) (sym (append-nil before))
follow_finds answers (target ∷ targets) (suc n) before name led few differ =
    let regrouped : AllDiffer ((before ++ name ∷ []) ++ target ∷ targets) = subst AllDiffer (sym (append_assoc before (name ∷ []) (target ∷ targets))) differ in
    let root : is_root target ≡ false = root_not target led.1 in
    let apart : is_among target (before ++ name ∷ []) ≡ false = not_before (before ++ name ∷ []) target targets regrouped in
    ap (go_on (follow answers n) before name) led.0
    ∙ ap (λ t. cond t None (follow answers n (before ++ name ∷ []) target)) (ap (λ r. r || is_among target (before ++ name ∷ [])) root ∙ apart)
    ∙ follow_finds answers targets n (before ++ name ∷ []) target led.2 (omega arith) regrouped
    ∙ ap (λ b. Some (b, end_of target targets)) (append_assoc before (name ∷ []) (names_before target targets))

-- one name more

pub follow_once : (answers : AnswerMap) (k n : ℕ) (before : List NameOf) (name : NameOf) → k ≡ suc n → follow answers k before name ≡ go_on (follow answers n) before name (alias_of (answers name))
unfolding follow
follow_once answers k n before name e = ap (λ m. follow answers m before name) e

pub follow_none : (answers : AnswerMap) (before : List NameOf) (name : NameOf) → follow answers 0 before name ≡ None
unfolding follow
follow_none answers before name = refl
