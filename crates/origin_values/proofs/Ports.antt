-- The digits of a port.
use Rattle.std.proofs.Common.{◌≡◌, ◌⊎◌, ℕ, ◌+◌, ◌-◌, ◌*◌, ◌<◌, ◌≤◌, Bool, true, false, cond, not, min, List, [], ◌∷◌, length, take, drop, get_or, refl, ap, sym, ◌∙◌, subst, arith, inl, inr, add-one}
use Rattle.std.proofs.lemmas.Bool.{cases_lt}
use Rattle.std.proofs.Math.Seq.{drop-cons}
use Rattle.std.specs.List.{list_all}
use Rattle.std.specs.Char.{is_ascii_digit, digit_value}
use Rattle.std.specs.Str.Parse.{digits_value_after}
use Rattle.origin_values.specs.OriginReading.{digits_before}
use Rattle.alt_base.proofs.Conjunctions.{both}
use Rattle.alt_base.proofs.Digits.{value_of_digit, value_grows}

-- a value above the bound may stand at it
capped : (n : ℕ) (ds : List ℕ) → min 65536 (digits_value_after 10 (min n 65536) ds) ≡ min 65536 (digits_value_after 10 n ds)
capped n ds = go (cases_lt n 65536)
  where
    go : (n < 65536) ⊎ (65536 ≤ n) → min 65536 (digits_value_after 10 (min n 65536) ds) ≡ min 65536 (digits_value_after 10 n ds)
    go (inl small) = let same : min n 65536 ≡ n = omega arith in ap (λ m. min 65536 (digits_value_after 10 m ds)) same
    go (inr large) = omega (arith, value_grows ds n, value_grows ds (min n 65536))

-- one digit more
pub record Step (w : ℕ) (rest : List ℕ) (total : ℕ) : Type 0 where
  pub within : w ≤ 65536
  pub digits : list_all is_ascii_digit rest ≡ true
  pub capped : min 65536 (digits_value_after 10 w rest) ≡ min 65536 total

one_digit : (v w b total : ℕ) (rest : List ℕ) → list_all is_ascii_digit (b ∷ rest) ≡ true → w ≡ min (v * 10 + (b - 48)) 65536
    → min 65536 (digits_value_after 10 v (b ∷ rest)) ≡ min 65536 total → Step w rest total
one_digit v w b total rest digits is before =
    let t = both (is_ascii_digit b) (list_all is_ascii_digit rest) digits in
    record {
      within = omega arith;
      digits = t.1;
      capped = ap (λ m. min 65536 (digits_value_after 10 m rest)) (is ∙ ap (λ d. min (v * 10 + d) 65536) (sym (value_of_digit b t.0)))
          ∙ capped (v * 10 + digit_value b) rest ∙ before;
    }

pub next_digit : (v w i total : ℕ) (ds : List ℕ) → i < length ds → list_all is_ascii_digit (drop i ds) ≡ true → w ≡ min (v * 10 + (get_or ds i 0 - 48)) 65536
    → min 65536 (digits_value_after 10 v (drop i ds)) ≡ min 65536 total → Step w (drop (i + 1) ds) total
next_digit v w i total ds inside digits is before =
    let split : drop i ds ≡ get_or ds i 0 ∷ drop (i + 1) ds = rw add-one (drop-cons ds i 0 inside) in
    one_digit v w (get_or ds i 0) total (drop (i + 1) ds)
    (subst (λ xs. list_all is_ascii_digit xs ≡ true) split digits) is
    (subst (λ xs. min 65536 (digits_value_after 10 v xs) ≡ min 65536 total) split before)

-- the digits at the front are digits
pub digits_taken : (text : List ℕ) → list_all is_ascii_digit (take (digits_before text) text) ≡ true
digits_taken [] = refl
digits_taken (b ∷ bs) = go (is_ascii_digit b) refl (digits_taken bs)
  where
    go : (t : Bool) → is_ascii_digit b ≡ t → list_all is_ascii_digit (take (digits_before bs) bs) ≡ true
        → list_all is_ascii_digit (take (cond (not t) 0 (digits_before bs + 1)) (b ∷ bs)) ≡ true
    go true is rest = rw add-one (rw is rest)
    go false is rest = refl
