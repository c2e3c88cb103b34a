-- The value of digits, and its bound.
use Rattle.std.proofs.Common.{◌≡◌, ℕ, ◌+◌, ◌-◌, ◌*◌, ◌/◌, ◌<◌, ◌≤◌, true, List, ◌∷◌, length, drop, get_or, None, refl, subst, arith, add-one}
use Rattle.std.proofs.Math.Seq.{drop-cons}
use Rattle.std.specs.List.{list_all}
use Rattle.std.specs.Char.{is_ascii_digit, digit_value}
use Rattle.std.specs.Str.Parse.{digits_value_after}
use Rattle.alt_base.proofs.Numbers.{le_false}
use Rattle.event_lines.specs.Fields.{number_within}
use Rattle.alt_base.proofs.Conjunctions.{both}
use Rattle.alt_base.proofs.Digits.{digit_code, value_of_digit, value_grows}

none_within : (most n : ℕ) → most < n → None ≡ number_within most n
none_within most n h = rw (le_false n most h) refl

-- the digits from a place on, as its digit and those behind it
record Digit (b : ℕ) (rest : List ℕ) : Type 0 where
  digit : is_ascii_digit b ≡ true
  digits : list_all is_ascii_digit rest ≡ true

split_digits : (b : ℕ) (rest : List ℕ) → list_all is_ascii_digit (b ∷ rest) ≡ true → Digit b rest
split_digits b rest h = let t = both (is_ascii_digit b) (list_all is_ascii_digit rest) h in record { digit = t.0; digits = t.1 }

too_large_here : (most v b total : ℕ) (rest : List ℕ) → 9 ≤ most → list_all is_ascii_digit (b ∷ rest) ≡ true → (most - (b - 48)) / 10 < v
    → digits_value_after 10 v (b ∷ rest) ≡ total → most < total
too_large_here most v b total rest some digits large is =
    let d = split_digits b rest digits in
    let code = digit_code b d.digit in
    let value : digit_value b ≡ b - 48 = value_of_digit b d.digit in
    omega (arith, value_grows rest (v * 10 + digit_value b), code.0, code.1)

split_at : (i : ℕ) (ds : List ℕ) → i < length ds → drop i ds ≡ get_or ds i 0 ∷ drop (i + 1) ds
split_at i ds inside = rw add-one (drop-cons ds i 0 inside)

pub too_large : (most v i total : ℕ) (ds : List ℕ) → 9 ≤ most → i < length ds → list_all is_ascii_digit (drop i ds) ≡ true → (most - (get_or ds i 0 - 48)) / 10 < v
    → digits_value_after 10 v (drop i ds) ≡ total → None ≡ number_within most total
too_large most v i total ds some inside digits large is =
    let split = split_at i ds inside in
    none_within most total
    (too_large_here most v (get_or ds i 0) total (drop (i + 1) ds) some (subst (λ xs. list_all is_ascii_digit xs ≡ true) split digits) large
    (subst (λ xs. digits_value_after 10 v xs ≡ total) split is))
