-- How origins join a list.
use Rattle.std.proofs.Common.{◌≡◌, ◌∙◌, ℕ, ◌≤◌, Bool, true, false, cond, not, ◌||◌, List, [], ◌∷◌, ◌++◌, length, take, filter, refl, ap, sym, arith, append_assoc, append-nil, length-append}
use Rattle.std.proofs.lemmas.List.{take-append-le}
use Rattle.origin_values.specs.Equality.{origin_eq}
use Rattle.origin_values.specs.declared.origin.Origin.{Origin}
use Rattle.origin_values.proofs.Equal.{true_origin}
use Rattle.route_events.specs.Distinct.{distinct}
use Rattle.conn_states.specs.Origins.{is_among, joined}

-- two that are one stand in the same lists
same_place : (ks : List Origin) (a b : Origin) → origin_eq a b ≡ true → is_among ks b ≡ is_among ks a
same_place ks a b e = ap (is_among ks) (sym (true_origin a b e))

-- a list, and behind it one more
among_more : (ks : List Origin) (x y : Origin) → is_among (ks ++ x ∷ []) y ≡ (is_among ks y || origin_eq x y)
among_more [] x y = by_test (origin_eq x y)
  where
    by_test : (b : Bool) → (b || false) ≡ b
    by_test true = refl
    by_test false = refl
among_more (k ∷ ks) x y = by_test (origin_eq k y) (among_more ks x y)
  where
    by_test : (b : Bool) → is_among (ks ++ x ∷ []) y ≡ (is_among ks y || origin_eq x y) → (b || is_among (ks ++ x ∷ []) y) ≡ ((b || is_among ks y) || origin_eq x y)
    by_test true rest = refl
    by_test false rest = rest

-- what one that stands there already takes away is taken away by it
held_already : (ks : List Origin) (x : Origin) → is_among ks x ≡ true → (ys : List Origin)
    → filter (λ o. not (is_among ks o)) (filter (λ y. not (origin_eq x y)) ys) ≡ filter (λ o. not (is_among ks o)) ys
held_already ks x there [] = refl
held_already ks x there (y ∷ ys) = by_test (origin_eq x y) refl (held_already ks x there ys)
  where
    by_test : (b : Bool) → origin_eq x y ≡ b
        → filter (λ o. not (is_among ks o)) (filter (λ z. not (origin_eq x z)) ys) ≡ filter (λ o. not (is_among ks o)) ys
        → filter (λ o. not (is_among ks o)) (cond (not b) (y ∷ filter (λ z. not (origin_eq x z)) ys) (filter (λ z. not (origin_eq x z)) ys)) ≡ cond (not (is_among ks y)) (y ∷ filter (λ o. not (is_among ks o)) ys) (filter (λ o. not (is_among ks o)) ys)
    by_test true e rest = let among : is_among ks y ≡ true = same_place ks x y e ∙ there in rw among rest
    by_test false e rest = ap (λ zs. cond (not (is_among ks y)) (y ∷ zs) zs) rest

-- one more takes away what is one with it
held_behind : (ks : List Origin) (x : Origin) (ys : List Origin)
    → filter (λ o. not (is_among (ks ++ x ∷ []) o)) ys ≡ filter (λ o. not (is_among ks o)) (filter (λ y. not (origin_eq x y)) ys)
held_behind ks x [] = refl
held_behind ks x (y ∷ ys) = by_tests (is_among (ks ++ x ∷ []) y) (is_among ks y) (origin_eq x y) refl (among_more ks x y) (held_behind ks x ys)
  where
    by_tests : (a b c : Bool) → is_among ks y ≡ b → a ≡ (b || c)
        → filter (λ o. not (is_among (ks ++ x ∷ []) o)) ys ≡ filter (λ o. not (is_among ks o)) (filter (λ z. not (origin_eq x z)) ys)
        → cond (not a) (y ∷ filter (λ o. not (is_among (ks ++ x ∷ []) o)) ys) (filter (λ o. not (is_among (ks ++ x ∷ []) o)) ys)
        ≡ filter (λ o. not (is_among ks o)) (cond (not c) (y ∷ filter (λ z. not (origin_eq x z)) ys) (filter (λ z. not (origin_eq x z)) ys))
    by_tests a true true h e rest = rw e rest
    by_tests a false true h e rest = rw e rest
    by_tests a true false h e rest = rw (e, h) rest
    by_tests a false false h e rest = rw (e, h) (ap (λ zs. y ∷ zs) rest)

-- one origin joins
pub joined_one : (ks : List Origin) (x : Origin) (b : Bool) → is_among ks x ≡ b → cond b ks (ks ++ x ∷ []) ≡ joined ks (x ∷ [])
joined_one ks x true e = rw e (sym (append-nil ks))
joined_one ks x false e = rw e refl

-- no origins join
pub joined_none : (ks : List Origin) → joined ks [] ≡ ks
joined_none ks = append-nil ks

-- the first joins, and then the others
pub joined_next : (ks : List Origin) (x : Origin) (xs : List Origin) → joined (joined ks (x ∷ [])) xs ≡ joined ks (x ∷ xs)
joined_next ks x xs = by_test (is_among ks x) refl
  where
    by_test : (b : Bool) → is_among ks x ≡ b → joined (joined ks (x ∷ [])) xs ≡ joined ks (x ∷ xs)
    by_test true e =
        ap (λ zs. joined zs xs) (sym (joined_one ks x true e)) ∙ rw e (ap (λ zs. ks ++ zs) (sym (held_already ks x e (distinct origin_eq xs))))
    by_test false e =
        ap (λ zs. joined zs xs) (sym (joined_one ks x false e)) ∙ append_assoc ks (x ∷ []) (filter (λ o. not (is_among (ks ++ x ∷ []) o)) (distinct origin_eq xs)) ∙ rw e (ap (λ zs. ks ++ x ∷ zs) (held_behind ks x (distinct origin_eq xs)))

-- what was there stands in front
pub front_stays : (n : ℕ) (ks xs olds : List Origin) → n ≤ length ks → take n ks ≡ olds → take n (joined ks xs) ≡ olds
front_stays n ks xs olds few e = take-append-le n ks (filter (λ o. not (is_among ks o)) (distinct origin_eq xs)) few ∙ e

-- none goes away
pub room_stays : (n : ℕ) (ks xs : List Origin) → n ≤ length ks → n ≤ length (joined ks xs)
room_stays n ks xs few = omega (arith, few, length-append ks (filter (λ o. not (is_among ks o)) (distinct origin_eq xs)))
