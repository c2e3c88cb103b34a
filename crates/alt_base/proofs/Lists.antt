-- Lists, and what loops make of them, one more item at a time.
use Rattle.std.proofs.Common.{◌≡◌, ◌≢◌, ℕ, ◌+◌, ◌<◌, zero, suc, Bool, true, false, cond, nat_eq, List, [], ◌∷◌, ◌++◌, map, filter, find, Option, Some, None, take, drop, set, get_or, length, refl, ap, sym, ◌∙◌, subst, arith, add-one}
use Rattle.std.proofs.Math.Seq.{drop-cons}
use Rattle.std.specs.Cmp.Lexicographic.{pointwise, same_text}
use Rattle.std.specs.List.{position_from}
use Rattle.alt_base.proofs.Numbers.{eq_self}
use Rattle.alt_base.proofs.Booleans.{contradicts}

pub cons_not_nil : {X : Type 0} (x : X) (xs : List X) → x ∷ xs ≢ []
cons_not_nil x xs e = cc

-- the test of two texts

pub text_self : (a : List ℕ) → pointwise nat_eq a a ≡ true
text_self [] = refl
text_self (b ∷ bs) = rw (eq_self b) (text_self bs)

pub text_true : (a b : List ℕ) → a ≡ b → pointwise nat_eq a b ≡ true
text_true a b e = subst (λ xs. pointwise nat_eq a xs ≡ true) e (text_self a)

pub true_text : (a b : List ℕ) → pointwise nat_eq a b ≡ true → a ≡ b
true_text a b h = same_text a b (sym h)

-- the next item is the first of those that are left
pub next_item : {X : Type 0} (items : List X) (count : ℕ) (item : X) → (count < length items) × (item ≡ get_or items count item) → drop count items ≡ item ∷ drop (count + 1) items
next_item items count item h = rw (add-one, drop-cons items count item h.0) (ap (λ x. x ∷ drop (suc count) items) (sym h.1))

-- one more item is mapped in its place

pub set_suc : {X : Type 0} (f : X → X) (xs : List X) (i : ℕ) (y d : X) → i < length xs → y ≡ f (get_or xs i d) → set (map f (take i xs) ++ drop i xs) i y ≡ map f (take (suc i) xs) ++ drop (suc i) xs
set_suc f [] i y d within is = absurd (omega arith)
set_suc f (x ∷ xs) zero y d within is = ap (λ z. z ∷ xs) is
set_suc f (x ∷ xs) (suc i) y d within is = ap (λ zs. f x ∷ zs) (set_suc f xs i y d (omega arith) is)

pub at_place : {X : Type 0} (f : X → X) (xs : List X) (i : ℕ) (d : X) → i < length xs → get_or (map f (take i xs) ++ drop i xs) i d ≡ get_or xs i d
at_place f [] i d within = absurd (omega arith)
at_place f (x ∷ xs) zero d within = refl
at_place f (x ∷ xs) (suc i) d within = at_place f xs i d (omega arith)

pub set_mapped : {X : Type 0} (f : X → X) (xs ys : List X) (i : ℕ) (y d : X) → i < length xs → ys ≡ map f (take i xs) ++ drop i xs → y ≡ f (get_or ys i d) → set ys i y ≡ map f (take (i + 1) xs) ++ drop (i + 1) xs
set_mapped f xs ys i y d within are is =
    rw add-one (ap (λ zs. set zs i y) are ∙ set_suc f xs i y d within (is ∙ ap (λ zs. f (get_or zs i d)) are ∙ ap f (at_place f xs i d within)))

-- a test behind one that passes wherever it does
pub filter_within : {X : Type 0} (p q : X → Bool) (xs : List X) → ((x : X) → p x ≡ true → q x ≡ true) → filter p (filter q xs) ≡ filter p xs
filter_within p q [] h = refl
filter_within {X} p q (x ∷ xs) h = by_tests (p x) (q x) refl refl (filter_within p q xs h)
  where
    by_tests : (b c : Bool) → p x ≡ b → q x ≡ c → filter p (filter q xs) ≡ filter p xs → filter p (cond c (x ∷ filter q xs) (filter q xs)) ≡ cond b (x ∷ filter p xs) (filter p xs)
    by_tests true true px qx rest = rw px (ap (λ zs. x ∷ zs) rest)
    by_tests false true px qx rest = rw px rest
    by_tests true false px qx rest = contradicts (q x) (h x px) qx
    by_tests false false px qx rest = rest

-- where no place is found, nothing is found
pub none_found : {X : Type 0} (t : X → Bool) (i : ℕ) (xs : List X) → position_from t i xs ≡ None → find t xs ≡ None
none_found t i [] h = refl
none_found t i (x ∷ xs) h = by_test (t x) h (none_found t (i + 1) xs)
  where
    by_test : (b : Bool) → cond b (Some i) (position_from t (i + 1) xs) ≡ None → (position_from t (i + 1) xs ≡ None → find t xs ≡ None) → cond b (Some x) (find t xs) ≡ None
    by_test true h rest = absurd (cc)
    by_test false h rest = rest h
