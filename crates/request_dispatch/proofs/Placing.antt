-- The place of a request among those that wait, by the order of numbers.
use Rattle.std.proofs.Common.{◌≡◌, ℕ, ◌+◌, ◌-◌, ◌<◌, ◌≤◌, suc, Bool, true, false, cond, nat_lt, List, [], ◌∷◌, ◌++◌, length, take, drop, Some, None, refl, ap, ◌∙◌, arith}
use Rattle.std.specs.List.{position_from}
use Rattle.request_dispatch.specs.declared.waiting.Waiting.{Waiting}
use Rattle.request_dispatch.specs.RequestTable.{placed}

-- a waiting request has a greater number
abbrev pub is_above : ℕ → Waiting → Bool
is_above number w = nat_lt number w.request.number

-- where none has, it is the last
pub none_above : (w : Waiting) (i : ℕ) (xs : List Waiting) → position_from (is_above w.request.number) i xs ≡ None → placed w xs ≡ xs ++ w ∷ []
none_above w i [] h = refl
none_above w i (x ∷ xs) h = by_test (is_above w.request.number x) h (none_above w (i + 1) xs)
  where
    by_test : (b : Bool) → cond b (Some i) (position_from (is_above w.request.number) (i + 1) xs) ≡ None → (position_from (is_above w.request.number) (i + 1) xs ≡ None → placed w xs ≡ xs ++ w ∷ [])
        → cond b (w ∷ x ∷ xs) (x ∷ placed w xs) ≡ x ∷ (xs ++ w ∷ [])
    by_test true h rest = absurd (cc)
    by_test false h rest = ap (λ zs. x ∷ zs) (rest h)

-- its place isn't below the first, and is one of the list's
pub within : (t : Waiting → Bool) (i place : ℕ) (xs : List Waiting) → position_from t i xs ≡ Some place → (i ≤ place) × (place < i + length xs)
within t i place [] h = absurd (cc)
within t i place (x ∷ xs) h = by_test (t x) h (within t (i + 1) place xs)
  where
    by_test : (b : Bool) → cond b (Some i) (position_from t (i + 1) xs) ≡ Some place → (position_from t (i + 1) xs ≡ Some place → (i + 1 ≤ place) × (place < i + 1 + length xs))
        → (i ≤ place) × (place < i + suc (length xs))
    by_test true h rest = let same : i ≡ place = cc in (omega arith, omega arith)
    by_test false h rest = let below = (rest h).0 in let above = (rest h).1 in (omega arith, omega arith)

-- where one has, it stands before the first such
first_above_from : (w : Waiting) (i place : ℕ) (xs : List Waiting) → position_from (is_above w.request.number) i xs ≡ Some place → placed w xs ≡ take (place - i) xs ++ w ∷ drop (place - i) xs
first_above_from w i place [] h = absurd (cc)
first_above_from w i place (x ∷ xs) h = by_test (is_above w.request.number x) h (first_above_from w (i + 1) place xs) (within (is_above w.request.number) (i + 1) place xs)
  where
    by_test : (b : Bool) → cond b (Some i) (position_from (is_above w.request.number) (i + 1) xs) ≡ Some place
        → (position_from (is_above w.request.number) (i + 1) xs ≡ Some place → placed w xs ≡ take (place - (i + 1)) xs ++ w ∷ drop (place - (i + 1)) xs)
        → (position_from (is_above w.request.number) (i + 1) xs ≡ Some place → (i + 1 ≤ place) × (place < i + 1 + length xs))
        → cond b (w ∷ x ∷ xs) (x ∷ placed w xs) ≡ take (place - i) (x ∷ xs) ++ w ∷ drop (place - i) (x ∷ xs)
    by_test true h rest inside =
        let same : i ≡ place = cc in
        let first : place - i ≡ 0 = omega arith in
        rw first refl
    by_test false h rest inside =
        let below = (inside h).0 in
        let next : place - i ≡ suc (place - (i + 1)) = omega arith in
        rw next (ap (λ zs. x ∷ zs) (rest h))

pub first_above : (w : Waiting) (place : ℕ) (xs : List Waiting) → position_from (is_above w.request.number) 0 xs ≡ Some place → placed w xs ≡ take place xs ++ w ∷ drop place xs
first_above w place xs h =
    let same : place - 0 ≡ place = omega arith in
    first_above_from w 0 place xs h ∙ ap (λ n. take n xs ++ w ∷ drop n xs) same
