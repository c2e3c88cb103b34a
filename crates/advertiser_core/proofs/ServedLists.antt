-- What one more act makes of the list of served origins.
use Rattle.std.proofs.Common.{◌≡◌, ℕ, ◌<◌, suc, Bool, true, false, cond, ◌||◌, not, nat_eq, List, [], ◌∷◌, ◌++◌, length, Option, Some, None, is_some, All, get_or, subst, refl, ap, sym, ◌∙◌, arith, true≢false}
use Rattle.std.specs.List.{list_any, AllPairs}
use Rattle.std.proofs.lemmas.List.Quantifiers.{all_pairs_push}
use Rattle.std.specs.Option.{unwrap_or, option_eq}
use Rattle.std.specs.Set.{remove_key}
use Rattle.std.proofs.lemmas.List.{append-nil}
use Rattle.std.proofs.lemmas.List.Elements.{filter-append, All-nil, All-push, All-weaker, All-get_or}
use Rattle.std.proofs.lemmas.List.Folds.{list_any-append}
use Rattle.alt_base.proofs.Numbers.{eq_true, eq_false, true_eq}
use Rattle.origin_values.specs.Equality.{origin_eq}
use Rattle.origin_values.specs.declared.origin.Origin.{Origin}
use Rattle.altsvc_grammar.specs.declared.alt_svc.AltSvc.{AltSvc}
use Rattle.advertiser_core.specs.Acts.{Act, Serve, Unserve, Announce, Advertise}
use Rattle.advertiser_core.specs.ServedList.{is_served, served_since, served_since_first, served_list, IsEarlier, IsServedList}
use Rattle.origin_values.proofs.Equal.{one_origin, origin_self, turned_origin}
use Rattle.advertiser_core.proofs.Removed.{others, removed_behind, removed_last, all_others, not_among_others, among_others}

-- an origin is served exactly where it is served since some act
pub served_by_since : (acts : List Act) (o : Origin) → is_served acts o ≡ is_some (served_since acts o)
served_by_since [] o = refl
served_by_since (Serve p ∷ acts) o = by_test (origin_eq o p) (served_by_since acts o)
  where
    by_test : (t : Bool) → is_served acts o ≡ is_some (served_since acts o) → cond t true (is_served acts o) ≡ is_some (cond t (Some (unwrap_or (served_since acts o) (length acts))) (served_since acts o))
    by_test true rest = refl
    by_test false rest = rest
served_by_since (Unserve p ∷ acts) o = by_test (origin_eq o p) (served_by_since acts o)
  where
    by_test : (t : Bool) → is_served acts o ≡ is_some (served_since acts o) → cond t false (is_served acts o) ≡ is_some (cond {A = Option ℕ} t None (served_since acts o))
    by_test true rest = refl
    by_test false rest = rest
served_by_since (Announce ∷ acts) o = served_by_since acts o
served_by_since (Advertise p value ∷ acts) o = served_by_since acts o

-- since one of these acts
pub since_within : (acts : List Act) (o : Origin) (k : ℕ) → served_since acts o ≡ Some k → k < length acts
since_within [] o k h = cc
since_within (Serve p ∷ acts) o k h = by_test (origin_eq o p) (served_since acts o) (since_within acts o) h
  where
    by_test : (t : Bool) (s : Option ℕ) → ((n : ℕ) → s ≡ Some n → n < length acts) → cond t (Some (unwrap_or s (length acts))) s ≡ Some k → k < suc (length acts)
    by_test true None within f = let g : length acts ≡ k = cc in omega arith
    by_test true (Some n) within f = let g : n ≡ k = cc in let w = within n refl in omega arith
    by_test false s within f = let w = within k f in omega arith
since_within (Unserve p ∷ acts) o k h = by_test (origin_eq o p) (since_within acts o k) h
  where
    by_test : (t : Bool) → (served_since acts o ≡ Some k → k < length acts) → cond t None (served_since acts o) ≡ Some k → k < suc (length acts)
    by_test true within f = absurd (elim_none f)
      where
        elim_none : None ≡ Some k → ⊥
        elim_none e = cc
    by_test false within f = let w = within f in omega arith
since_within (Announce ∷ acts) o k h = let w = since_within acts o k h in omega arith
since_within (Advertise p value ∷ acts) o k h = let w = since_within acts o k h in omega arith

-- the test by which an origin is listed at a place
abbrev pub since_is : Option ℕ → ℕ → Bool
since_is s k = option_eq nat_eq s (Some k)

-- the list goes by nothing but the places
same_list : (all more first : List Act) → ((o : Origin) (k : ℕ) → k < length first → since_is (served_since all o) k ≡ since_is (served_since more o) k) → served_since_first all first ≡ served_since_first more first
same_list all more [] h = refl
same_list all more (Serve o ∷ first) h =
    let rest = same_list all more first (λ p k w. h p k (omega arith)) in
    let here = h o (length first) (omega arith) in
    λ i. rest i ++ cond (here i) (o ∷ []) []
same_list all more (Unserve o ∷ first) h = same_list all more first (λ p k w. h p k (omega arith))
same_list all more (Announce ∷ first) h = same_list all more first (λ p k w. h p k (omega arith))
same_list all more (Advertise o value ∷ first) h = same_list all more first (λ p k w. h p k (omega arith))

pub list_at_first : served_list [] ≡ []
unfolding served_list
list_at_first = refl

-- one more act that serves an origin
pub list_served : (acts : List Act) (o : Origin) → served_list (Serve o ∷ acts) ≡ cond (is_served acts o) (served_list acts) (served_list acts ++ o ∷ [])
unfolding served_list
list_served acts o =
    (λ i. before i ++ cond (here i) (o ∷ []) []) ∙ by_since (served_since acts o) refl
  where
    elsewhere : (p : Origin) (k : ℕ) → k < length acts → since_is (served_since (Serve o ∷ acts) p) k ≡ since_is (served_since acts p) k
    elsewhere p k w = by_test (origin_eq p o) (served_since acts p)
      where
        by_test : (t : Bool) (s : Option ℕ) → since_is (cond t (Some (unwrap_or s (length acts))) s) k ≡ since_is s k
        by_test true None = eq_false (length acts) k (λ e. absurd (omega arith))
        by_test true (Some n) = refl
        by_test false s = refl

    before : served_since_first (Serve o ∷ acts) acts ≡ served_since_first acts acts
    before = same_list (Serve o ∷ acts) acts acts elsewhere

    here : since_is (served_since (Serve o ∷ acts) o) (length acts) ≡ nat_eq (unwrap_or (served_since acts o) (length acts)) (length acts)
    here = ap (λ t. since_is (cond t (Some (unwrap_or (served_since acts o) (length acts))) (served_since acts o)) (length acts)) (origin_self o)

    by_since : (s : Option ℕ) → served_since acts o ≡ s → served_since_first acts acts ++ cond (nat_eq (unwrap_or (served_since acts o) (length acts)) (length acts)) (o ∷ []) [] ≡ cond (is_served acts o) (served_since_first acts acts) (served_since_first acts acts ++ o ∷ [])
    by_since None e =
        let not_served : is_served acts o ≡ false = served_by_since acts o ∙ ap is_some e in
        let own : nat_eq (length acts) (length acts) ≡ true = eq_true (length acts) (length acts) refl in
        rw (e, own, not_served) refl
    by_since (Some k) e =
        let served : is_served acts o ≡ true = served_by_since acts o ∙ ap is_some e in
        let within : k < length acts = since_within acts o k e in
        let other : nat_eq k (length acts) ≡ false = eq_false k (length acts) (λ h. absurd (omega arith)) in
        rw (e, other, served) (append-nil (served_since_first acts acts))

-- one more act that unserves an origin
others_first : (acts first : List Act) (o : Origin) → served_since_first (Unserve o ∷ acts) first ≡ others o (served_since_first acts first)
others_first acts [] o = refl
others_first acts (Serve p ∷ first) o =
    (λ i. others_first acts first o i ++ here i) ∙ sym (filter-append (λ q. not (origin_eq o q)) (served_since_first acts first) (cond (since_is (served_since acts p) (length first)) (p ∷ []) []))
  where
    here : cond (since_is (cond (origin_eq p o) None (served_since acts p)) (length first)) (p ∷ []) [] ≡ others o (cond (since_is (served_since acts p) (length first)) (p ∷ []) [])
    here = by_tests (origin_eq p o) (since_is (served_since acts p) (length first)) refl refl
      where
        by_tests : (t s : Bool) → origin_eq p o ≡ t → since_is (served_since acts p) (length first) ≡ s → cond (since_is (cond t None (served_since acts p)) (length first)) (p ∷ []) [] ≡ others o (cond s (p ∷ []) [])
        by_tests true true e f = rw (turned_origin o p ∙ e) refl
        by_tests true false e f = refl
        by_tests false true e f = rw (turned_origin o p ∙ e, f) refl
        by_tests false false e f = rw f refl
others_first acts (Unserve p ∷ first) o = others_first acts first o
others_first acts (Announce ∷ first) o = others_first acts first o
others_first acts (Advertise p value ∷ first) o = others_first acts first o

pub list_unserved : (acts : List Act) (o : Origin) → served_list (Unserve o ∷ acts) ≡ others o (served_list acts)
unfolding served_list
list_unserved acts o = others_first acts acts o

-- the other acts leave the list

pub list_announced : (acts : List Act) → served_list (Announce ∷ acts) ≡ served_list acts
unfolding served_list
list_announced acts = same_list (Announce ∷ acts) acts acts (λ o k w. refl)

pub list_advertised : (acts : List Act) (o : Origin) (value : AltSvc) → served_list (Advertise o value ∷ acts) ≡ served_list acts
unfolding served_list
list_advertised acts o value = same_list (Advertise o value ∷ acts) acts acts (λ p k w. refl)

-- exactly the served origins are listed
pub listed_where_served : (acts : List Act) (q : Origin) → list_any (origin_eq q) (served_list acts) ≡ is_served acts q
unfolding served_list
listed_where_served [] q = refl
listed_where_served (Serve o ∷ acts) q =
    ap (list_any (origin_eq q)) (list_served acts o) ∙ by_tests (is_served acts o) (origin_eq q o) (listed_where_served acts q) refl refl
  where
    or_true : (b : Bool) → (b || true) ≡ true
    or_true true = refl
    or_true false = refl

    or_false : (b : Bool) → (b || false) ≡ b
    or_false true = refl
    or_false false = refl

    by_tests : (s t : Bool) → list_any (origin_eq q) (served_list acts) ≡ is_served acts q → is_served acts o ≡ s → origin_eq q o ≡ t
        → list_any (origin_eq q) (cond s (served_list acts) (served_list acts ++ o ∷ [])) ≡ cond t true (is_served acts q)
    by_tests true true rest e f = rest ∙ ap (is_served acts) ((one_origin q o).0 f) ∙ e
    by_tests true false rest e f = rest
    by_tests false true rest e f = list_any-append (origin_eq q) (served_list acts) (o ∷ []) ∙ rw f (or_true (list_any (origin_eq q) (served_list acts)))
    by_tests false false rest e f = list_any-append (origin_eq q) (served_list acts) (o ∷ []) ∙ rw f (or_false (list_any (origin_eq q) (served_list acts)) ∙ rest)
listed_where_served (Unserve o ∷ acts) q =
    ap (list_any (origin_eq q)) (list_unserved acts o) ∙ by_test (origin_eq q o) (listed_where_served acts q) refl
  where
    by_test : (t : Bool) → list_any (origin_eq q) (served_list acts) ≡ is_served acts q → origin_eq q o ≡ t → list_any (origin_eq q) (others o (served_list acts)) ≡ cond t false (is_served acts q)
    by_test true rest e = ap (λ p. list_any (origin_eq p) (others o (served_list acts))) ((one_origin q o).0 e) ∙ not_among_others o (served_list acts)
    by_test false rest e = among_others o q (served_list acts) e ∙ rest
listed_where_served (Announce ∷ acts) q = ap (list_any (origin_eq q)) (list_announced acts) ∙ listed_where_served acts q
listed_where_served (Advertise o value ∷ acts) q = ap (list_any (origin_eq q)) (list_advertised acts o value) ∙ listed_where_served acts q

-- what is listed at the first acts is served since one of them
since_first : (all first : List Act) (q : Origin) → list_any (origin_eq q) (served_since_first all first) ≡ true → (k : ℕ) × (served_since all q ≡ Some k) × (k < length first)
since_first all [] q h = absurd (true≢false (sym h))
since_first all (Serve o ∷ first) q h =
    by_tests (list_any (origin_eq q) (served_since_first all first)) (since_is (served_since all o) (length first)) (origin_eq q o) (since_first all first q) refl refl refl
    (sym (list_any-append (origin_eq q) (served_since_first all first) (cond (since_is (served_since all o) (length first)) (o ∷ []) [])) ∙ h)
  where
    at_end : (s : Option ℕ) → since_is s (length first) ≡ true → (k : ℕ) × (s ≡ Some k) × (k < suc (length first))
    at_end None e = absurd (true≢false (sym e))
    at_end (Some k) e = (k, refl, (let w = true_eq k (length first) e in omega arith))

    of_one : origin_eq q o ≡ true → (k : ℕ) × (served_since all o ≡ Some k) × (k < suc (length first)) → (k : ℕ) × (served_since all q ≡ Some k) × (k < suc (length first))
    of_one e r = (r.0, ap (served_since all) ((one_origin q o).0 e) ∙ r.1, r.2)

    by_tests : (b s t : Bool) → (list_any (origin_eq q) (served_since_first all first) ≡ true → (k : ℕ) × (served_since all q ≡ Some k) × (k < length first))
        → list_any (origin_eq q) (served_since_first all first) ≡ b → since_is (served_since all o) (length first) ≡ s → origin_eq q o ≡ t
        → (b || list_any (origin_eq q) (cond s (o ∷ []) [])) ≡ true → (k : ℕ) × (served_since all q ≡ Some k) × (k < suc (length first))
    by_tests true s t before e f g w = let r = before e in (r.0, r.1, (let v = r.2 in omega arith))
    by_tests false true true before e f g w = of_one g (at_end (served_since all o) f)
    by_tests false true false before e f g w = absurd (true≢false (sym (sym (ap (λ b. b || false) g) ∙ w)))
    by_tests false false t before e f g w = absurd (true≢false (sym w))
since_first all (Unserve o ∷ first) q h = let r = since_first all first q h in (r.0, r.1, (let w = r.2 in omega arith))
since_first all (Announce ∷ first) q h = let r = since_first all first q h in (r.0, r.1, (let w = r.2 in omega arith))
since_first all (Advertise o value ∷ first) q h = let r = since_first all first q h in (r.0, r.1, (let w = r.2 in omega arith))

-- each origin stands once, so the first of one is all of it
removed_first : (all first : List Act) (o : Origin) → remove_key (origin_eq o) (served_since_first all first) ≡ others o (served_since_first all first)
removed_first all [] o = refl
removed_first all (Serve p ∷ first) o =
    by_tests (since_is (served_since all p) (length first)) (origin_eq o p) (removed_first all first o) refl refl
  where
    clash : origin_eq o p ≡ true → since_is (served_since all p) (length first) ≡ true → (k : ℕ) × (served_since all o ≡ Some k) × (k < length first) → ⊥
    clash f e r =
        let same : served_since all p ≡ Some r.0 = ap (served_since all) (sym ((one_origin o p).0 f)) ∙ r.1 in
        let at : nat_eq r.0 (length first) ≡ true = sym (ap (λ s. since_is s (length first)) same) ∙ e in
        let n = true_eq r.0 (length first) at in
        let w = r.2 in
        omega arith

    not_before : origin_eq o p ≡ true → since_is (served_since all p) (length first) ≡ true → list_any (origin_eq o) (served_since_first all first) ≡ false
    not_before f e = by_any (list_any (origin_eq o) (served_since_first all first)) refl
      where
        by_any : (b : Bool) → list_any (origin_eq o) (served_since_first all first) ≡ b → b ≡ false
        by_any false g = refl
        by_any true g = absurd (clash f e (since_first all first o g))

    by_tests : (s t : Bool) → remove_key (origin_eq o) (served_since_first all first) ≡ others o (served_since_first all first)
        → since_is (served_since all p) (length first) ≡ s → origin_eq o p ≡ t
        → remove_key (origin_eq o) (served_since_first all first ++ cond s (p ∷ []) []) ≡ others o (served_since_first all first ++ cond s (p ∷ []) [])
    by_tests false t rest e f = ap (remove_key (origin_eq o)) (append-nil (served_since_first all first)) ∙ rest ∙ ap (others o) (sym (append-nil (served_since_first all first)))
    by_tests true false rest e f =
        removed_behind (origin_eq o) (served_since_first all first) p f
        ∙ ap (λ zs. zs ++ p ∷ []) rest
        ∙ sym (filter-append (λ q. not (origin_eq o q)) (served_since_first all first) (p ∷ []) ∙ rw f refl)
    by_tests true true rest e f =
        removed_last (origin_eq o) (served_since_first all first) p (not_before f e) f
        ∙ sym (filter-append (λ q. not (origin_eq o q)) (served_since_first all first) (p ∷ []) ∙ rw f (append-nil (others o (served_since_first all first)) ∙ all_others o (served_since_first all first) (not_before f e)))
removed_first all (Unserve p ∷ first) o = removed_first all first o
removed_first all (Announce ∷ first) o = removed_first all first o
removed_first all (Advertise p value ∷ first) o = removed_first all first o

pub list_removed : (acts : List Act) (o : Origin) → remove_key (origin_eq o) (served_list acts) ≡ served_list (Unserve o ∷ acts)
unfolding served_list
list_removed acts o = removed_first acts acts o ∙ sym (others_first acts acts o)

-- an origin that is served since one of the first acts
abbrev pub IsSinceFirst : List Act → List Act → Origin → Type 0
IsSinceFirst all first o = (k : ℕ) × (served_since all o ≡ Some k) × (k < length first)

later_too : (all : List Act) (act : Act) (first : List Act) (o : Origin) → IsSinceFirst all first o → IsSinceFirst all (act ∷ first) o
later_too all act first o r = (r.0, r.1, (let w = r.2 in omega arith))

-- a served origin's place is the one that the test finds
since_found : (s : Option ℕ) (k : ℕ) → since_is s k ≡ true → s ≡ Some k
since_found None k e = cc
since_found (Some j) k e = ap Some (true_eq j k e)

all_since_first : (all first : List Act) → All (IsSinceFirst all first) (served_since_first all first)
all_since_first all [] = All-nil (IsSinceFirst all [])
all_since_first all (Serve o ∷ first) =
    by_test (since_is (served_since all o) (length first)) refl (All-weaker (IsSinceFirst all first) (IsSinceFirst all (Serve o ∷ first)) (later_too all (Serve o) first) (served_since_first all first) (all_since_first all first))
  where
    by_test : (s : Bool) → since_is (served_since all o) (length first) ≡ s → All (IsSinceFirst all (Serve o ∷ first)) (served_since_first all first) → All (IsSinceFirst all (Serve o ∷ first)) (served_since_first all first ++ cond s (o ∷ []) [])
    by_test true e rest = All-push (IsSinceFirst all (Serve o ∷ first)) (served_since_first all first) o rest (length first, since_found (served_since all o) (length first) e, omega arith)
    by_test false e rest = subst (All (IsSinceFirst all (Serve o ∷ first))) (sym (append-nil (served_since_first all first))) rest
all_since_first all (Unserve o ∷ first) = All-weaker (IsSinceFirst all first) (IsSinceFirst all (Unserve o ∷ first)) (later_too all (Unserve o) first) (served_since_first all first) (all_since_first all first)
all_since_first all (Announce ∷ first) = All-weaker (IsSinceFirst all first) (IsSinceFirst all (Announce ∷ first)) (later_too all Announce first) (served_since_first all first) (all_since_first all first)
all_since_first all (Advertise o value ∷ first) = All-weaker (IsSinceFirst all first) (IsSinceFirst all (Advertise o value ∷ first)) (later_too all (Advertise o value) first) (served_since_first all first) (all_since_first all first)

-- the served list goes by the acts since which its origins are served
abbrev pub IsEarlierIn : List Act → Origin → Origin → Type 0
IsEarlierIn all o p = IsEarlier (served_since all o) (served_since all p)

earlier : (s t : Option ℕ) (j k : ℕ) → s ≡ Some j → t ≡ Some k → j < k → IsEarlier s t
earlier s t j k e f h = subst (λ u. IsEarlier u t) (sym e) (subst (IsEarlier (Some j)) (sym f) h)

ordered_first : (all first : List Act) → AllPairs (IsEarlierIn all) (served_since_first all first)
ordered_first all [] = λ i j d h w. absurd (omega arith)
ordered_first all (Serve o ∷ first) = by_test (since_is (served_since all o) (length first)) refl (ordered_first all first)
  where
    by_test : (s : Bool) → since_is (served_since all o) (length first) ≡ s → AllPairs (IsEarlierIn all) (served_since_first all first) → AllPairs (IsEarlierIn all) (served_since_first all first ++ cond s (o ∷ []) [])
    by_test true e rest = all_pairs_push (IsEarlierIn all) (served_since_first all first) o rest
        (λ k d w. let r = All-get_or (IsSinceFirst all first) (served_since_first all first) k d w (all_since_first all first) in
        earlier (served_since all (get_or (served_since_first all first) k d)) (served_since all o) r.0 (length first) r.1 (since_found (served_since all o) (length first) e) r.2)
    by_test false e rest = subst (AllPairs (IsEarlierIn all)) (sym (append-nil (served_since_first all first))) rest
ordered_first all (Unserve o ∷ first) = ordered_first all first
ordered_first all (Announce ∷ first) = ordered_first all first
ordered_first all (Advertise o value ∷ first) = ordered_first all first

pub list_is : (acts : List Act) → IsServedList acts (served_list acts)
unfolding served_list
list_is acts = record { members = listed_where_served acts; ordered = ordered_first acts acts }
