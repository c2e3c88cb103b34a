-- The first that passes a test, its place, and the others.
use Rattle.std.proofs.Common.{◌≡◌, ℕ, ◌+◌, ◌<◌, zero, suc, Bool, true, false, not, cond, List, [], ◌∷◌, ◌++◌, length, take, drop, get_or, filter, find, Option, Some, None, refl, ap, sym, ◌∙◌, subst, arith}
use Rattle.std.specs.Prelude.{slice_get}
use Rattle.std.specs.List.{All, position_from, position_or_len}
use Rattle.std.specs.Option.{option_or}
use Rattle.std.proofs.Math.Dec.{ltb}
use Rattle.std.proofs.lemmas.Bool.{ltb-true}
use Rattle.std.proofs.lemmas.Iterator.Adapters.{position_from-zero}
use Rattle.std.proofs.lemmas.List.Folds.{find_at, find-append}
use Rattle.std.proofs.lemmas.List.Sums.{passes_at_first}
use Rattle.std.proofs.lemmas.List.Elements.{All-head, All-tail}
use Rattle.std.proofs.lemmas.Option.{slice_get-get_or}
use Rattle.alt_base.proofs.Booleans.{contradicts}

-- it is the place of the first that passes
pub record IsPlace {X : Type 0} (t : X → Bool) (xs : List X) (place : ℕ) : Type 0 where
  pub within : place < length xs
  pub found : (d : X) → find t xs ≡ Some (get_or xs place d)
  pub passes : (d : X) → t (get_or xs place d) ≡ true

pub is_place : {X : Type 0} (t : X → Bool) (xs : List X) (place : ℕ) → position_from t 0 xs ≡ Some place → IsPlace t xs place
is_place {X} t xs place h = by_test (ltb (position_or_len t xs) (length xs)) refl (position_from-zero t xs ∙ h)
  where
    by_test : (b : Bool) → ltb (position_or_len t xs) (length xs) ≡ b → cond b (Some (position_or_len t xs)) None ≡ Some place → IsPlace t xs place
    by_test true w e =
        let same : position_or_len t xs ≡ place = cc in
        let first : position_or_len t xs < length xs = ltb-true (position_or_len t xs) (length xs) w in
        let within : place < length xs = omega arith in
        record {
          within = within;
          found = λ d. find_at t xs ∙ ap (slice_get xs) same ∙ slice_get-get_or xs place d within;
          passes = λ d. ap (λ (i : ℕ). t (get_or xs i d)) (sym same) ∙ passes_at_first t xs d first;
        }
    by_test false w e = absurd (cc)

-- where a test fails at a place, what passes it is the same without that place
pub others_same : {X : Type 0} (p : X → Bool) (xs : List X) (i : ℕ) (d : X) → i < length xs → p (get_or xs i d) ≡ false → filter p (take i xs ++ drop (suc i) xs) ≡ filter p xs
others_same p [] i d within fails = absurd (omega arith)
others_same p (y ∷ ys) zero d within fails = sym (ap (λ b. cond b (y ∷ filter p ys) (filter p ys)) fails)
others_same {X} p (y ∷ ys) (suc i) d within fails = by_test (p y) (others_same p ys i d (omega arith) fails)
  where
    by_test : (b : Bool) → filter p (take i ys ++ drop (suc i) ys) ≡ filter p ys → cond {A = List X} b (y ∷ filter p (take i ys ++ drop (suc i) ys)) (filter p (take i ys ++ drop (suc i) ys)) ≡ cond b (y ∷ filter p ys) (filter p ys)
    by_test true rest = ap (λ zs. y ∷ zs) rest
    by_test false rest = rest

-- none passes a test among those that fail it
pub none_among_others : {X : Type 0} (t : X → Bool) (xs : List X) → find t (filter (λ x. not (t x)) xs) ≡ None
none_among_others t [] = refl
none_among_others {X} t (x ∷ xs) = by_test (t x) refl (none_among_others t xs)
  where
    by_test : (b : Bool) → t x ≡ b → find t (filter (λ y. not (t y)) xs) ≡ None → find t (cond (not b) (x ∷ filter (λ y. not (t y)) xs) (filter (λ y. not (t y)) xs)) ≡ None
    by_test true tx rest = rest
    by_test false tx rest = rw tx rest

-- the first that passes a test, among those that fail one which fails wherever it passes
pub found_among_others : {X : Type 0} (t u : X → Bool) (xs : List X) → ((x : X) → t x ≡ true → u x ≡ false) → find t (filter (λ x. not (u x)) xs) ≡ find t xs
found_among_others t u [] apart = refl
found_among_others {X} t u (x ∷ xs) apart = by_tests (t x) (u x) refl refl (found_among_others t u xs apart)
  where
    by_tests : (b c : Bool) → t x ≡ b → u x ≡ c → find t (filter (λ y. not (u y)) xs) ≡ find t xs → find t (cond (not c) (x ∷ filter (λ y. not (u y)) xs) (filter (λ y. not (u y)) xs)) ≡ cond b (Some x) (find t xs)
    by_tests true true tx ux rest = contradicts (u x) ux (apart x tx)
    by_tests true false tx ux rest = rw tx refl
    by_tests false true tx ux rest = rest
    by_tests false false tx ux rest = rw tx rest

-- what holds of each holds of the one that is found
pub holds_of_found : {X : Type 0} (P : X → Type 0) (t : X → Bool) (xs : List X) (x : X) → All P xs → find t xs ≡ Some x → P x
holds_of_found P t [] x all found = absurd (cc)
holds_of_found P t (y ∷ ys) x all found = by_test (t y) found (holds_of_found P t ys x (All-tail P y ys all))
  where
    by_test : (b : Bool) → cond b (Some y) (find t ys) ≡ Some x → (find t ys ≡ Some x → P x) → P x
    by_test true e rest = let same : y ≡ x = cc in subst P same (All-head P y ys all)
    by_test false e rest = rest e

-- one more at the end: it is found where it passes and none did, and passed over where it doesn't
pub found_last : {X : Type 0} (t : X → Bool) (xs : List X) (x : X) → find t xs ≡ None → t x ≡ true → find t (xs ++ x ∷ []) ≡ Some x
found_last t xs x none passes = find-append t xs (x ∷ []) ∙ ap (λ o. option_or o (find t (x ∷ []))) none ∙ ap (λ b. cond b (Some x) None) passes

passed_last : {X : Type 0} (o : Option X) → option_or o None ≡ o
passed_last None = refl
passed_last (Some x) = refl

pub found_before : {X : Type 0} (t : X → Bool) (xs : List X) (x : X) → t x ≡ false → find t (xs ++ x ∷ []) ≡ find t xs
found_before t xs x fails = find-append t xs (x ∷ []) ∙ ap (λ b. option_or (find t xs) (cond b (Some x) None)) fails ∙ passed_last (find t xs)
