-- What the different items of a list are: they are apart, and no item is lost.
use Rattle.std.proofs.Common.{◌≡◌, Bool, true, false, cond, not, ◌&&◌, ◌||◌, List, [], ◌∷◌, filter, refl, true≢false}
use Rattle.std.specs.List.{list_any}
use Rattle.alt_base.proofs.Conjunctions.{both}
use Rattle.route_events.specs.Distinct.{distinct, are_apart}
use Rattle.alt_base.proofs.Booleans.{contradicts, first_of_neither, second_of_neither}
use Rattle.std.proofs.lemmas.Bool.{not-true, not-false, or_from}

together : (a b : Bool) → a ≡ false → b ≡ true → (not a && b) ≡ true
together true b e h = absurd (true≢false e)
together false b e h = h

-- none that passes is left by the turned test
none_passes : {X : Type 0} (p : X → Bool) (xs : List X) → list_any p (filter (λ x. not (p x)) xs) ≡ false
none_passes p [] = refl
none_passes {X} p (x ∷ xs) = by_test (p x) refl (none_passes p xs)
  where
    by_test : (b : Bool) → p x ≡ b → list_any p (filter (λ y. not (p y)) xs) ≡ false → list_any p (cond (not b) (x ∷ filter (λ y. not (p y)) xs) (filter (λ y. not (p y)) xs)) ≡ false
    by_test true e rest = rest
    by_test false e rest = or_from (p x) (list_any p (filter (λ y. not (p y)) xs)) e rest

fewer_pass : {X : Type 0} (p q : X → Bool) (xs : List X) → list_any q xs ≡ false → list_any q (filter p xs) ≡ false
fewer_pass p q [] none = refl
fewer_pass {X} p q (x ∷ xs) none = by_test (p x) (fewer_pass p q xs (second_of_neither (q x) (list_any q xs) none))
  where
    by_test : (b : Bool) → list_any q (filter p xs) ≡ false → list_any q (cond b (x ∷ filter p xs) (filter p xs)) ≡ false
    by_test true rest = or_from (q x) (list_any q (filter p xs)) (first_of_neither (q x) (list_any q xs) none) rest
    by_test false rest = rest

pub fewer_apart : {X : Type 0} (same : X → X → Bool) (p : X → Bool) (xs : List X) → are_apart same xs ≡ true → are_apart same (filter p xs) ≡ true
fewer_apart same p [] h = refl
fewer_apart {X} same p (x ∷ xs) h = by_test (p x) (fewer_apart same p xs parts.1)
  where
    parts : (not (list_any (same x) xs) ≡ true) × (are_apart same xs ≡ true)
    parts = both (not (list_any (same x) xs)) (are_apart same xs) h

    by_test : (b : Bool) → are_apart same (filter p xs) ≡ true → are_apart same (cond b (x ∷ filter p xs) (filter p xs)) ≡ true
    by_test true rest = together (list_any (same x) (filter p xs)) (are_apart same (filter p xs)) (fewer_pass p (same x) xs (not-true (list_any (same x) xs) parts.0)) rest
    by_test false rest = rest

pub distinct_apart : {X : Type 0} (same : X → X → Bool) (xs : List X) → are_apart same (distinct same xs) ≡ true
distinct_apart same [] = refl
distinct_apart same (x ∷ xs) =
    together (list_any (same x) (filter (λ y. not (same x y)) (distinct same xs))) (are_apart same (filter (λ y. not (same x y)) (distinct same xs)))
    (none_passes (same x) (distinct same xs)) (fewer_apart same (λ y. not (same x y)) (distinct same xs) (distinct_apart same xs))

-- where none of those that are left passes, and none of the others does
none_of_all : {X : Type 0} (p q : X → Bool) (xs : List X) → list_any q (filter p xs) ≡ false → ((x : X) → p x ≡ false → q x ≡ false) → list_any q xs ≡ false
none_of_all p q [] none h = refl
none_of_all {X} p q (x ∷ xs) none h = by_test (p x) refl none (λ rest. none_of_all p q xs rest h)
  where
    by_test : (b : Bool) → p x ≡ b → list_any q (cond b (x ∷ filter p xs) (filter p xs)) ≡ false → (list_any q (filter p xs) ≡ false → list_any q xs ≡ false) → (q x || list_any q xs) ≡ false
    by_test true e none rest = or_from (q x) (list_any q xs) (first_of_neither (q x) (list_any q (filter p xs)) none) (rest (second_of_neither (q x) (list_any q (filter p xs)) none))
    by_test false e none rest = or_from (q x) (list_any q xs) (h x e) (rest none)

-- a test that holds of no different item holds of no item, where it holds of both or or_from of two that are one
pub none_distinct : {X : Type 0} (same : X → X → Bool) (q : X → Bool) → ((x y : X) → same x y ≡ true → q y ≡ true → q x ≡ true) → (xs : List X) → list_any q (distinct same xs) ≡ false → list_any q xs ≡ false
none_distinct same q one [] none = refl
none_distinct {X} same q one (x ∷ xs) none =
    or_from (q x) (list_any q xs) here (none_distinct same q one xs (none_of_all (λ y. not (same x y)) q (distinct same xs) (second_of_neither (q x) (list_any q (filter (λ y. not (same x y)) (distinct same xs))) none) (λ y e. other y (not-false (same x y) e) (q y) refl)))
  where
    here : q x ≡ false
    here = first_of_neither (q x) (list_any q (filter (λ y. not (same x y)) (distinct same xs))) none

    other : (y : X) → same x y ≡ true → (b : Bool) → q y ≡ b → b ≡ false
    other y e true h = contradicts (q x) (one x y e h) here
    other y e false h = refl
