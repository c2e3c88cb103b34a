-- The first of a number is taken out of a list.
use Rattle.std.proofs.Common.{◌≡◌, ℕ, ◌<◌, zero, suc, Bool, true, false, cond, List, [], ◌∷◌, ◌++◌, length, take, drop, filter, find, get_or, Option, Some, None, is_some, refl, ap, sym, ◌∙◌, true≢false, arith}
use Rattle.std.specs.Prelude.{slice_get}
use Rattle.std.specs.List.{position_from}
use Rattle.route_events.proofs.Lists.{find_in}
use Rattle.route_choice.proofs.Places.{found_at, no_place}

-- what stands at a place stands within
pub stands_within : {X : Type 0} (xs : List X) (i : ℕ) (x : X) → slice_get xs i ≡ Some x → i < length xs
stands_within [] i x e = absurd (true≢false (sym (ap is_some e)))
stands_within (y ∷ ys) zero x e = omega arith
stands_within (y ∷ ys) (suc i) x e = let rest = stands_within ys i x e in omega arith

-- where a test fails at a place, what passes it is the same without that place
pub others_same : {X : Type 0} (p : X → Bool) (xs : List X) (i : ℕ) (x : X) → slice_get xs i ≡ Some x → p x ≡ false → filter p (take i xs ++ drop (suc i) xs) ≡ filter p xs
others_same p [] i x e fails = absurd (true≢false (sym (ap is_some e)))
others_same p (y ∷ ys) zero x e fails = let same : y ≡ x = cc in sym (ap (λ b. cond b (y ∷ filter p ys) (filter p ys)) (ap p same ∙ fails))
others_same {X} p (y ∷ ys) (suc i) x e fails = by_test (p y) (others_same p ys i x e fails)
  where
    by_test : (b : Bool) → filter p (take i ys ++ drop (suc i) ys) ≡ filter p ys → cond {A = List X} b (y ∷ filter p (take i ys ++ drop (suc i) ys)) (filter p (take i ys ++ drop (suc i) ys)) ≡ cond b (y ∷ filter p ys) (filter p ys)
    by_test true rest = ap (λ zs. y ∷ zs) rest
    by_test false rest = rest

-- the place of the first that passes a test, and what stands there
pub record Stands {X : Type 0} (t : X → Bool) (xs : List X) (place : ℕ) : Type 0 where
  pub item : X
  pub here : slice_get xs place ≡ Some item
  pub found : find t xs ≡ Some item
  pub passes : t item ≡ true

pub at_place : {X : Type 0} (t : X → Bool) (xs : List X) (place : ℕ) → position_from t 0 xs ≡ Some place → Stands t xs place
at_place {X} t xs place h = by_found (find t xs) refl
  where
    by_found : (v : Option X) → find t xs ≡ v → Stands t xs place
    by_found None e = absurd (true≢false (ap is_some (sym h ∙ no_place t 0 xs e)))
    by_found (Some x) e = record { item = x; here = found_at t place xs h ∙ e; found = e; passes = (find_in t xs x e).1 }

pub item_at : {X : Type 0} (xs : List X) (i : ℕ) (x d : X) → slice_get xs i ≡ Some x → get_or xs i d ≡ x
item_at [] i x d e = absurd (true≢false (sym (ap is_some e)))
item_at (y ∷ ys) zero x d e = cc
item_at (y ∷ ys) (suc i) x d e = item_at ys i x d e
