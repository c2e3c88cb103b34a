-- The reading of a number of seconds against its grammar.
use Rattle.std.proofs.Common.{◌≡◌, ◌⊎◌, ℕ, ◌+◌, ◌-◌, ◌*◌, ◌^◌, ◌<◌, ◌≤◌, Bool, true, false, cond, ◌&&◌, min, List, [], ◌∷◌, ◌++◌, length, drop, get_or, Option, Some, None, refl, ap, sym, ◌∙◌, subst, arith, inl, inr}
use Rattle.std.specs.List.{list_all}
use Rattle.std.specs.Int.{IsInRange}
use Rattle.std.specs.Char.{is_ascii_digit, digit_value}
use Rattle.std.specs.Fmt.{decimal}
use Rattle.std.specs.Str.Parse.{AllDigits, digits_value, digits_value_after}
use Rattle.std.proofs.lemmas.List.Folds.{list_all_at}
use Rattle.std.proofs.lemmas.Grind.{common_steps}
use Rattle.std.proofs.lemmas.Str.{digit_value_digit}
use Rattle.std.proofs.lemmas.Str.Parse.{IsNumeralModel, numerals_by_value, tells_digits}
use Rattle.std.proofs.lemmas.Fmt.{decimal_nonempty, digits_decimal, digits_value-decimal}
use Rattle.field_text.specs.DeltaGrammar.{greatest_delta_seconds, SpellsDelta, HasOther, IsNoDelta, OneDelta}
use Rattle.field_text.specs.DeltaReading.{read_delta_seconds}
use Rattle.alt_base.proofs.Digits.{digit_range, all_digits, digits_all}

-- the loop: the number so far, and the bytes from here on
abbrev pub read_digits : ℕ → List ℕ → Option ℕ
read_digits n [] = Some n
read_digits n (b ∷ bs) = cond (is_ascii_digit b) (read_digits (min (n * 10 + (b - 48)) greatest_delta_seconds) bs) None

abbrev whole : ℕ → List ℕ → Option ℕ
whole m x = cond (list_all is_ascii_digit x) (Some (min (digits_value_after 10 m x) greatest_delta_seconds)) None

next_number : (n m b : ℕ) → n ≡ min m greatest_delta_seconds → is_ascii_digit b ≡ true → min (n * 10 + (b - 48)) greatest_delta_seconds ≡ min (m * 10 + digit_value b) greatest_delta_seconds
next_number n m b is digit =
    let range : IsInRange 48 57 b = digit_range b digit in
    omega (arith, digit_value_digit b range)

-- a capped number goes on as the number itself, then capped
digits_read : (n m : ℕ) (x : List ℕ) → n ≡ min m greatest_delta_seconds → read_digits n x ≡ whole m x
digits_read n m [] is = ap Some is
digits_read n m (b ∷ bs) is =
    go (is_ascii_digit b) refl (λ digit. digits_read (min (n * 10 + (b - 48)) greatest_delta_seconds) (m * 10 + digit_value b) bs (next_number n m b is digit))
  where
    go : (t : Bool) → is_ascii_digit b ≡ t → (is_ascii_digit b ≡ true → read_digits (min (n * 10 + (b - 48)) greatest_delta_seconds) bs ≡ whole (m * 10 + digit_value b) bs)
        → cond t (read_digits (min (n * 10 + (b - 48)) greatest_delta_seconds) bs) None ≡ cond (t && list_all is_ascii_digit bs) (Some (min (digits_value_after 10 m (b ∷ bs)) greatest_delta_seconds)) None
    go true digit rec = rec digit
    go false digit rec = refl

pub seconds_read : (x : List ℕ) → 0 < length x → read_digits 0 x ≡ read_delta_seconds x
seconds_read [] some = absurd (omega arith)
seconds_read (b ∷ bs) some = digits_read 0 0 (b ∷ bs) refl

-- after the last byte
pub end_read : (n i : ℕ) (x : List ℕ) → 0 < length x → length x ≤ i → read_digits n (drop i x) ≡ read_digits 0 x → Some n ≡ read_delta_seconds x
end_read n i x some end reads = ap (read_digits n) (sym (drop_all x i end)) ∙ reads ∙ seconds_read x some
  where
    drop_all : (xs : List ℕ) (k : ℕ) → length xs ≤ k → drop k xs ≡ []
    drop_all xs k h = grind (arith, common_steps)

prepend_other : (b : ℕ) (bs : List ℕ) → HasOther bs → HasOther (b ∷ bs)
prepend_other b bs s = record { before = b ∷ s.before; byte = s.byte; after = s.after; text = ap (λ xs. b ∷ xs) s.text; no_digit = s.no_digit }

has_other : (x : List ℕ) → list_all is_ascii_digit x ≡ false → HasOther x
has_other [] is = cc
has_other (b ∷ bs) is = go (is_ascii_digit b) refl is (λ rest. has_other bs rest)
  where
    go : (t : Bool) → is_ascii_digit b ≡ t → (t && list_all is_ascii_digit bs) ≡ false → (list_all is_ascii_digit bs ≡ false → HasOther bs) → HasOther (b ∷ bs)
    go true digit rest rec = prepend_other b bs (rec rest)
    go false digit rest rec = record { before = []; byte = b; after = bs; text = refl; no_digit = digit }

other_not_all : (before : List ℕ) (byte : ℕ) (after : List ℕ) → is_ascii_digit byte ≡ false → list_all is_ascii_digit (before ++ byte ∷ after) ≡ false
other_not_all [] byte after other = rw other refl
other_not_all (b ∷ bs) byte after other = go (is_ascii_digit b) (other_not_all bs byte after other)
  where
    go : (t : Bool) → list_all is_ascii_digit (bs ++ byte ∷ after) ≡ false → (t && list_all is_ascii_digit (bs ++ byte ∷ after)) ≡ false
    go true rec = rec
    go false rec = refl

-- a byte at a place of the text that is no digit
pub other_at : (x : List ℕ) (i : ℕ) → i < length x → is_ascii_digit (get_or x i 0) ≡ false → IsNoDelta x
other_at x i below other = inr (has_other x (list_all_at is_ascii_digit x i 0 below other))

-- what is written in decimal
pub decimal_spells : (n : ℕ) → n ≤ greatest_delta_seconds → SpellsDelta (decimal n) n
decimal_spells n small =
    let wide : n < 2 ^ 64 = omega arith in
    let numerals : IsNumeralModel (AllDigits 10) (digits_value 10) = numerals_by_value (AllDigits 10) tells_digits in
    record {
      digits = (decimal_nonempty n wide, digits_decimal numerals n wide);
      value = omega (arith, digits_value-decimal numerals n wide);
    }

-- what the reading says, as the grammar says it
abbrev pub DeltaSays : List ℕ → Option ℕ → Type 0
DeltaSays x (Some n) = SpellsDelta x n
DeltaSays x None = IsNoDelta x

pub delta_says : (x : List ℕ) → DeltaSays x (read_delta_seconds x)
delta_says [] = inl refl
delta_says (b ∷ bs) = go (list_all is_ascii_digit (b ∷ bs)) refl
  where
    go : (t : Bool) → list_all is_ascii_digit (b ∷ bs) ≡ t → DeltaSays (b ∷ bs) (cond t (Some (min (digits_value 10 (b ∷ bs)) greatest_delta_seconds)) None)
    go true is = record { digits = (omega arith, all_digits (b ∷ bs) is); value = refl }
    go false is = inr (has_other (b ∷ bs) is)

pub delta_spelled : (n : ℕ) (x : List ℕ) → SpellsDelta x n → read_delta_seconds x ≡ Some n
delta_spelled n [] s = absurd (omega (arith, s.digits.0))
delta_spelled n (b ∷ bs) s = rw (digits_all (b ∷ bs) s.digits.1) (ap Some (sym s.value))

reads_none : (x : List ℕ) → list_all is_ascii_digit x ≡ false → read_delta_seconds x ≡ None
reads_none [] is = refl
reads_none (b ∷ bs) is = rw is refl

pub delta_refused : (x : List ℕ) → IsNoDelta x → read_delta_seconds x ≡ None
delta_refused x (inl none) = ap read_delta_seconds none
delta_refused x (inr s) = ap read_delta_seconds s.text ∙ reads_none (s.before ++ s.byte ∷ s.after) (other_not_all s.before s.byte s.after s.no_digit)

either_says : (x : List ℕ) (r : Option ℕ) → DeltaSays x r → ((n : ℕ) × SpellsDelta x n) ⊎ IsNoDelta x
either_says x (Some n) s = inl (n, s)
either_says x None s = inr s

pub says_some : (n : ℕ) (x : List ℕ) → Some n ≡ read_delta_seconds x → SpellsDelta x n
says_some n x is = subst (DeltaSays x) (sym is) (delta_says x)

pub one_delta_of : (x : List ℕ) → OneDelta x
one_delta_of x = record {
  some = either_says x (read_delta_seconds x) (delta_says x);
  one_value = λ n m a b. let e = delta_spelled n x a in let e' = delta_spelled m x b in cc;
  not_both = λ n a b. let e = delta_spelled n x a in let e' = delta_refused x b in cc;
}
