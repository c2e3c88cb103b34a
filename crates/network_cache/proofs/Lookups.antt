-- What is kept for an origin, by the entries of an index.
use Rattle.std.proofs.Common.{◌≡◌, ℕ, Bool, true, false, cond, not, nat_lt, suc, List, [], ◌∷◌, map, filter, length, Option, Some, None, IsSome, nat_eq, refl, ap, sym, subst, ◌∙◌, arith, true≢false}
use Rattle.std.specs.List.{list_any, IsDistinct, AllByRecursion}
use Rattle.std.specs.Map.{keys_of, lookup, lookup_key}
use Rattle.std.proofs.lemmas.Map.Made.{lookup_key_passes}
use Rattle.std.specs.Map.Calls.{RetainsPairs}
use Rattle.origin_values.specs.declared.origin.Origin.{Origin}
use Rattle.origin_values.specs.Equality.{origin_eq}
use Rattle.origin_values.specs.contracts.origin.OriginPartialEq.TheImpl as origins
use Rattle.origin_values.proofs.Equal.{same_origin, true_origin, turned_origin}
use Rattle.alt_base.proofs.Numbers.{true_eq}
use Rattle.alt_base.proofs.Booleans.{first_of_neither, second_of_neither, first_of_both, second_of_both}
use Rattle.std.proofs.lemmas.Bool.{not-true}
use Rattle.network_cache.specs.declared.kept.Kept.{Kept}
use Rattle.network_cache.specs.Origins.{is_among, are_distinct}
use Rattle.network_cache.specs.Entries.{all_of, kept_among, narrowed, holds_some}

-- where an origin has no entry, nothing is kept for it
pub kept_of_none : (es : List (Origin × List Kept)) (o : Origin) → is_among o (keys_of es) ≡ false → kept_among es o ≡ []
kept_of_none [] o none = refl
kept_of_none (e ∷ es) o none = rw (first_of_neither (origin_eq o e.0) (is_among o (keys_of es)) none) (kept_of_none es o (second_of_neither (origin_eq o e.0) (is_among o (keys_of es)) none))

-- what the index finds

found : (es : List (Origin × List Kept)) (o : Origin) → kept_among es o ≡ all_of (lookup (origin_eq o) es)
found [] o = refl
found (e ∷ es) o = by_test (origin_eq o e.0) (found es o)
  where
    by_test : (w : Bool) → kept_among es o ≡ all_of (lookup (origin_eq o) es) → cond w e.1 (kept_among es o) ≡ all_of (cond w (Some e.1) (lookup (origin_eq o) es))
    by_test true rest = refl
    by_test false rest = rest

pub looked_up : (es : List (Origin × List Kept)) (o : Origin) → kept_among es o ≡ all_of (lookup ((origins.eq-value).it o) es)
looked_up es o = found es o ∙ (λ i. all_of (lookup (sym same_origin i o) es))

put_at : (w : Bool) (v p : Option (List Kept)) → all_of (cond w v p) ≡ cond w (all_of v) (all_of p)
put_at true v p = refl
put_at false v p = refl

-- what an update of the index makes of it
pub updated : (old new : List (Origin × List Kept)) (key o : Origin) (v : Option (List Kept))
    → lookup ((origins.eq-value).it o) new ≡ cond ((origins.eq-value).it key o) v (lookup ((origins.eq-value).it o) old)
    → kept_among new o ≡ cond (origin_eq o key) (all_of v) (kept_among old o)
updated old new key o v h =
    looked_up new o ∙ ap all_of h ∙ put_at ((origins.eq-value).it key o) v (lookup ((origins.eq-value).it o) old)
    ∙ ap (λ w. cond w (all_of v) (all_of (lookup ((origins.eq-value).it o) old))) ((λ i. same_origin i key o) ∙ turned_origin key o)
    ∙ ap (cond (origin_eq o key) (all_of v)) (sym (looked_up old o))

-- where nothing is found

pub emptied : (ks : List Kept) (n : ℕ) → n ≡ length ks → nat_eq n 0 ≡ true → ks ≡ []
emptied [] n is none = refl
emptied (k ∷ ks) n is none = absurd (some n (length ks) is (true_eq n 0 none))
  where
    some : (n m : ℕ) → n ≡ suc m → n ≡ 0 → ⊥
    some n m is none = omega arith

pub none_kept : (es : List (Origin × List Kept)) (key o : Origin) → kept_among es key ≡ [] → cond (origin_eq o key) [] (kept_among es o) ≡ kept_among es o
none_kept es key o none = by_test (origin_eq o key) refl
  where
    by_test : (w : Bool) → origin_eq o key ≡ w → cond w [] (kept_among es o) ≡ kept_among es o
    by_test true is = sym (ap (kept_among es) (true_origin o key is) ∙ none)
    by_test false is = refl

pub none_placed : (es : List (Origin × List Kept)) (key o : Origin) (ks : List Kept) → length ks ≡ 0 → kept_among es key ≡ [] → kept_among es o ≡ cond (origin_eq o key) ks (kept_among es o)
none_placed es key o [] is none = sym (none_kept es key o none)
none_placed es key o (k ∷ ks) is none = absurd (some (length ks) is)
  where
    some : (m : ℕ) → suc m ≡ 0 → ⊥
    some m is = omega arith

pub found_there : {o : Option (List Kept)} (ks : List Kept) → Some ks ≡ o → IsSome o
found_there ks is = subst IsSome is found_one
  where
    found_one : IsSome (Some ks)
    found_one = refl

-- a list that is found, and then narrowed
pub narrowed_there : (p : Kept → Bool) (es : List (Origin × List Kept)) (key o : Origin) (all list : List Kept) → Some all ≡ lookup ((origins.eq-value).it key) es → list ≡ filter p all
    → cond (origin_eq o key) list (kept_among es o) ≡ cond (origin_eq o key) (filter p (kept_among es o)) (kept_among es o)
narrowed_there p es key o all list is narrow = by_test (origin_eq o key) refl
  where
    by_test : (w : Bool) → origin_eq o key ≡ w → cond w list (kept_among es o) ≡ cond w (filter p (kept_among es o)) (kept_among es o)
    by_test true same = narrow ∙ ap (filter p) (ap all_of is ∙ sym (looked_up es key) ∙ sym (ap (kept_among es) (true_origin o key same)))
    by_test false same = refl

pub none_there_for : (p : Kept → Bool) (es : List (Origin × List Kept)) (key o : Origin) → lookup ((origins.eq-value).it key) es ≡ None → kept_among es o ≡ cond (origin_eq o key) (filter p (kept_among es o)) (kept_among es o)
none_there_for p es key o none = by_test (origin_eq o key) refl
  where
    by_test : (w : Bool) → origin_eq o key ≡ w → kept_among es o ≡ cond w (filter p (kept_among es o)) (kept_among es o)
    by_test true same = let nothing = ap (kept_among es) (true_origin o key same) ∙ looked_up es key ∙ ap all_of none in nothing ∙ sym (ap (filter p) nothing)
    by_test false same = refl

-- keys are distinct

none_same : (k : Origin) (ks : List Origin) → AllByRecursion (λ y. origin_eq k y ≡ false) ks → is_among k ks ≡ false
none_same k [] others = refl
none_same k (y ∷ ys) others = rw others.0 (none_same k ys others.1)

all_apart : (ks : List Origin) → IsDistinct origin_eq ks → are_distinct ks ≡ true
unfolding IsDistinct
all_apart [] others = refl
all_apart (k ∷ ks) others = rw (none_same k ks others.0) (all_apart ks others.1)

pub distinct_keys : (ks : List Origin) → IsDistinct (origins.eq-value).it ks → are_distinct ks ≡ true
distinct_keys ks others = all_apart ks (subst (λ (same : Origin → Origin → Bool). IsDistinct same ks) same_origin others)

-- entries are narrowed

kept_narrowed : (p : Kept → Bool) (es : List (Origin × List Kept)) (o : Origin) → kept_among (map (narrowed p) es) o ≡ filter p (kept_among es o)
kept_narrowed p [] o = refl
kept_narrowed p (e ∷ es) o = by_test (origin_eq o e.0) (kept_narrowed p es o)
  where
    by_test : (w : Bool) → kept_among (map (narrowed p) es) o ≡ filter p (kept_among es o) → cond w (filter p e.1) (kept_among (map (narrowed p) es) o) ≡ filter p (cond w e.1 (kept_among es o))
    by_test true rest = refl
    by_test false rest = rest

keys_narrowed : (p : Kept → Bool) (es : List (Origin × List Kept)) → keys_of (map (narrowed p) es) ≡ keys_of es
keys_narrowed p [] = refl
keys_narrowed p (e ∷ es) = ap (λ os. e.0 ∷ os) (keys_narrowed p es)

none_there : (ks : List Kept) → nat_lt 0 (length ks) ≡ false → ks ≡ []
none_there [] h = refl
none_there (k ∷ ks) h = absurd (true≢false (some (length ks) ∙ h))
  where
    some : (n : ℕ) → true ≡ nat_lt 0 (suc n)
    some n = grind arith

-- an entry in which nothing is left says what no entry says
kept_some : (es : List (Origin × List Kept)) (o : Origin) → are_distinct (keys_of es) ≡ true → kept_among (filter holds_some es) o ≡ kept_among es o
kept_some [] o h = refl
kept_some (e ∷ es) o h = by_tests (holds_some e) (origin_eq o e.0) refl refl (kept_some es o (second_of_both (not (is_among e.0 (keys_of es))) (are_distinct (keys_of es)) h))
  where
    alone : is_among e.0 (keys_of es) ≡ false
    alone = not-true (is_among e.0 (keys_of es)) (first_of_both (not (is_among e.0 (keys_of es))) (are_distinct (keys_of es)) h)

    by_tests : (w a : Bool) → holds_some e ≡ w → origin_eq o e.0 ≡ a → kept_among (filter holds_some es) o ≡ kept_among es o → kept_among (cond w (e ∷ filter holds_some es) (filter holds_some es)) o ≡ cond a e.1 (kept_among es o)
    by_tests true true some oe rest = rw oe refl
    by_tests true false some oe rest = rw oe rest
    by_tests false true some oe rest = rest ∙ kept_of_none es o (ap (λ (x : Origin). is_among x (keys_of es)) (true_origin o e.0 oe) ∙ alone) ∙ sym (none_there e.1 some)
    by_tests false false some oe rest = rest

pub kept_where_some : (p : Kept → Bool) (es : List (Origin × List Kept)) (o : Origin) → are_distinct (keys_of es) ≡ true → kept_among (filter holds_some (map (narrowed p) es)) o ≡ filter p (kept_among es o)
kept_where_some p es o h = kept_some (map (narrowed p) es) o (ap are_distinct (keys_narrowed p es) ∙ h) ∙ kept_narrowed p es o

-- what `retain` leaves, where the closure narrows each list and keeps those in which something is left
module _ {F : Type 0} (T : F → Origin → List Kept → Bool → List Kept → F → Type 0) (p : Kept → Bool) (f : F)
    (says : (o : Origin) (v : List Kept) (b : Bool) (w : List Kept) (g : F) → T f o v b w g → (b ≡ nat_lt 0 (length w)) × (w ≡ filter p v) × (g ≡ f)) where
  pub retained : (es left : List (Origin × List Kept)) → RetainsPairs T f es left → left ≡ filter holds_some (map (narrowed p) es)
  retained [] left h = h
  retained (e ∷ es) left h =
      let s = says e.0 e.1 h.0 h.1 h.2 h.4 in
      let rest = retained es h.3 (subst (λ g. RetainsPairs T g es h.3) s.2 h.5) in
      h.6 ∙ ap (λ b. cond b ((e.0, h.1) ∷ h.3) h.3) s.0 ∙ ap (λ (w : List Kept). cond (nat_lt 0 (length w)) ((e.0, w) ∷ h.3) h.3) s.1
      ∙ ap (λ (r : List (Origin × List Kept)). cond (nat_lt 0 (length (filter p e.1))) ((e.0, filter p e.1) ∷ r) r) rest

-- what is kept for one that is the same
pub same_kept : (es : List (Origin × List Kept)) (key o : Origin) (all : List Kept) → all ≡ kept_among es key → origin_eq key o ≡ true → kept_among es o ≡ all
same_kept es key o all is same = sym (is ∙ ap (kept_among es) (true_origin key o same))

pub any_over : (t : Kept → Bool) (w : Bool) (a b : List Kept) → cond w (list_any t a) (list_any t b) ≡ list_any t (cond w a b)
any_over t true a b = refl
any_over t false a b = refl

pub put_over : (w : Bool) (a b : List Kept) → cond w a (cond w [] b) ≡ cond w a b
put_over true a b = refl
put_over false a b = refl

-- the key that is found is the one that was looked for
pub found_key : (es : List (Origin × List Kept)) (key k : Origin) → Some k ≡ lookup_key ((origins.eq-value).it key) es → k ≡ key
found_key es key k is = sym (true_origin key k (sym (λ i. same_origin i key k) ∙ lookup_key_passes ((origins.eq-value).it key) es k (sym is)))
