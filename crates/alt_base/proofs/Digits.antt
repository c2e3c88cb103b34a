-- Decimal digits, and the value of several.
use Rattle.std.proofs.Common.{◌≡◌, ℕ, ◌+◌, ◌-◌, ◌*◌, ◌<◌, ◌≤◌, true, List, [], ◌∷◌, ◌++◌, append_assoc, decimal, refl, arith}
use Rattle.std.proofs.lemmas.Bool.{and_parts}
use Rattle.std.proofs.lemmas.Bool.Decides.{nat_tests}
use Rattle.std.proofs.lemmas.Str.{digit_value_digit}
use Rattle.std.proofs.lemmas.Str.Parse.{digit_from_value}
use Rattle.std.specs.List.{list_all}
use Rattle.std.specs.Int.{IsInRange}
use Rattle.std.specs.Char.{is_ascii_digit, digit_value}
use Rattle.std.specs.Net.Text.{dotted_text}
use Rattle.std.specs.Str.Parse.{AllDigits, digits_value_after}

-- a digit's code and value

pub digit_range : (b : ℕ) → is_ascii_digit b ≡ true → IsInRange 48 57 b
digit_range b h = grind (arith, nat_tests)

pub range_digit : (b : ℕ) → IsInRange 48 57 b → is_ascii_digit b ≡ true
range_digit b h = grind (arith, nat_tests)

pub digit_code : (b : ℕ) → is_ascii_digit b ≡ true → (48 ≤ b) × (b ≤ 57)
digit_code b h = let range : IsInRange 48 57 b = digit_range b h in (omega arith, omega arith)

pub value_of_digit : (b : ℕ) → is_ascii_digit b ≡ true → digit_value b ≡ b - 48
value_of_digit b h = omega (arith, digit_value_digit b (digit_range b h))

pub digit_shown : (n : ℕ) → n < 10 → is_ascii_digit (48 + n) ≡ true
digit_shown n h = grind (arith, nat_tests)

-- the test of all digits

pub all_digits : (ds : List ℕ) → list_all is_ascii_digit ds ≡ true → AllDigits 10 ds
all_digits [] h = tt
all_digits (d ∷ ds) h =
    let t = and_parts (is_ascii_digit d) (list_all is_ascii_digit ds) h in
    (omega (arith, value_of_digit d t.0, digit_code d t.0), all_digits ds t.1)

pub digits_all : (ds : List ℕ) → AllDigits 10 ds → list_all is_ascii_digit ds ≡ true
digits_all [] h = refl
digits_all (d ∷ ds) h = rw (range_digit d (digit_from_value d h.0)) (digits_all ds h.1)

-- more digits only make the value larger
pub value_grows : (ds : List ℕ) (n : ℕ) → n ≤ digits_value_after 10 n ds
value_grows [] n = omega arith
value_grows (d ∷ ds) n = omega (arith, value_grows ds (n * 10 + digit_value d))

-- four numbers with dots between, from the left on
pub dotted_assoc : (a b c d : ℕ) → dotted_text a b c d ≡ decimal a ++ 46 ∷ (decimal b ++ 46 ∷ (decimal c ++ 46 ∷ decimal d))
dotted_assoc a b c d = simp append_assoc
