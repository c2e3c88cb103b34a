-- The place of the first item that passes a test.
use Rattle.std.proofs.Common.{◌≡◌, ℕ, ◌+◌, ◌-◌, ◌≤◌, suc, Bool, true, false, cond, List, [], ◌∷◌, Some, None, refl, ap, sym, ◌∙◌, arith}
use Rattle.std.specs.Prelude.{find, slice_get}
use Rattle.std.specs.List.{position_from}

-- its place isn't below the first
from_first : {X : Type 0} (t : X → Bool) (i place : ℕ) (xs : List X) → position_from t i xs ≡ Some place → i ≤ place
from_first t i place [] h = absurd (cc)
from_first t i place (x ∷ xs) h = by_test (t x) h (from_first t (i + 1) place xs)
  where
    by_test : (b : Bool) → cond b (Some i) (position_from t (i + 1) xs) ≡ Some place → (position_from t (i + 1) xs ≡ Some place → i + 1 ≤ place) → i ≤ place
    by_test true h rest = let same : i ≡ place = cc in omega arith
    by_test false h rest = let above = rest h in omega arith

-- what stands there is what is found
found_from : {X : Type 0} (t : X → Bool) (i place : ℕ) (xs : List X) → position_from t i xs ≡ Some place → slice_get xs (place - i) ≡ find t xs
found_from t i place [] h = absurd (cc)
found_from t i place (x ∷ xs) h = by_test (t x) h (found_from t (i + 1) place xs) (from_first t (i + 1) place xs)
  where
    by_test : (b : Bool) → cond b (Some i) (position_from t (i + 1) xs) ≡ Some place → (position_from t (i + 1) xs ≡ Some place → slice_get xs (place - (i + 1)) ≡ find t xs)
        → (position_from t (i + 1) xs ≡ Some place → i + 1 ≤ place) → slice_get (x ∷ xs) (place - i) ≡ cond b (Some x) (find t xs)
    by_test true h rest above =
        let same : i ≡ place = cc in
        let first : place - i ≡ 0 = omega arith in
        rw first refl
    by_test false h rest above =
        let below = above h in
        let next : place - i ≡ suc (place - (i + 1)) = omega arith in
        rw next (rest h)

pub found_at : {X : Type 0} (t : X → Bool) (place : ℕ) (xs : List X) → position_from t 0 xs ≡ Some place → slice_get xs place ≡ find t xs
found_at t place xs h =
    let same : place - 0 ≡ place = omega arith in
    ap (slice_get xs) (sym same) ∙ found_from t 0 place xs h

pub no_place : {X : Type 0} (t : X → Bool) (i : ℕ) (xs : List X) → find t xs ≡ None → position_from t i xs ≡ None
no_place t i [] h = refl
no_place t i (x ∷ xs) h = by_test (t x) h (no_place t (i + 1) xs)
  where
    by_test : (b : Bool) → cond b (Some x) (find t xs) ≡ None → (find t xs ≡ None → position_from t (i + 1) xs ≡ None) → cond b (Some i) (position_from t (i + 1) xs) ≡ None
    by_test true h rest = absurd (cc)
    by_test false h rest = rest h
