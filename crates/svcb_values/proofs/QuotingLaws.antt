-- What is written for bytes between quotes is a string of them.
use Rattle.std.proofs.Common.{◌≡◌, ◌⊎◌, ℕ, ◌+◌, ◌/◌, ◌%◌, ◌<◌, Bool, true, false, cond, ◌&&◌, ◌||◌, nat_eq, nat_le, List, [], ◌∷◌, map, refl, sym, subst, arith, inl, inr}
use Rattle.std.specs.Char.{is_ascii_digit}
use Rattle.dns_names.specs.Names.{AreBytes}
use Rattle.dns_names.specs.TextParts.{Part, Raw, Quoted, Decimal, part_byte}
use Rattle.alt_base.proofs.Numbers.{true_eq, false_eq, true_le}
use Rattle.svcb_values.specs.declared.token.Style.TheVariants.{InQuotes}
use Rattle.svcb_values.specs.StringGrammar.{IsPart, AreParts, is_escapable, string_text}
use Rattle.svcb_values.specs.Written.{written_part, in_quotes}
use Rattle.svcb_values.proofs.ClassLaws.{shown_raw}
use Rattle.std.proofs.lemmas.Bool.{or_cases, or_parts, and_parts}
use Rattle.alt_base.proofs.Digits.{digit_shown}
use Rattle.dns_names.proofs.TextNames.{three_digits}

decimal_part : (b : ℕ) → b < 256 → IsPart InQuotes (Decimal (48 + b / 100) (48 + b / 10 % 10) (48 + b % 10))
decimal_part b h = (
  digit_shown (b / 100) (omega arith),
  digit_shown (b / 10 % 10) (omega arith),
  digit_shown (b % 10) (omega arith),
  omega (arith, three_digits b h, h),
)

-- what is written for a byte stands for it
pub record IsWritten (b : ℕ) (part : Part) : Type 0 where
  pub valid : IsPart InQuotes part
  pub means : part_byte part ≡ b

abbrev CanBeQuoted : ℕ → Type 0
CanBeQuoted b = (is_escapable InQuotes b ≡ true) × (is_ascii_digit b ≡ false)

quoted_mark : (b : ℕ) → (nat_eq b 34 ≡ true) ⊎ (nat_eq b 92 ≡ true) → CanBeQuoted b
quoted_mark b (inl e) = subst CanBeQuoted (sym (true_eq b 34 e)) (refl, refl)
quoted_mark b (inr e) = subst CanBeQuoted (sym (true_eq b 92 e)) (refl, refl)

raw_part : (b : ℕ) → (nat_eq b 34 || nat_eq b 92) ≡ false → (nat_le 32 b && nat_le b 126) ≡ true → IsPart InQuotes (Raw b)
raw_part b mark shown =
    let other = or_parts (nat_eq b 34) (nat_eq b 92) mark in
    let within = and_parts (nat_le 32 b) (nat_le b 126) shown in
    shown_raw b (true_le _ _ within.0) (true_le _ _ within.1) (false_eq _ _ other.0) (false_eq _ _ other.1)

written_by : (b : ℕ) (mark shown : Bool) → b < 256 → (nat_eq b 34 || nat_eq b 92) ≡ mark → (nat_le 32 b && nat_le b 126) ≡ shown
    → IsWritten b (cond mark (Quoted b) (cond shown (Raw b) (Decimal (48 + b / 100) (48 + b / 10 % 10) (48 + b % 10))))
written_by b true shown h p q = record { valid = quoted_mark b (or_cases (nat_eq b 34) (nat_eq b 92) p); means = refl }
written_by b false true h p q = record { valid = raw_part b p q; means = refl }
written_by b false false h p q = record { valid = decimal_part b h; means = three_digits b h }

byte_written : (b : ℕ) → b < 256 → IsWritten b (written_part b)
byte_written b h = written_by b _ _ h refl refl

-- what is written for bytes is of the grammar
pub quoted_parts_valid : (bytes : List ℕ) → AreBytes bytes → AreParts InQuotes (map written_part bytes)
quoted_parts_valid [] h = tt
quoted_parts_valid (b ∷ bs) h = ((byte_written b h.0).valid, quoted_parts_valid bs h.1)

-- and means them
pub quoted_parts_mean : (bytes : List ℕ) → AreBytes bytes → map part_byte (map written_part bytes) ≡ bytes
quoted_parts_mean [] h = refl
quoted_parts_mean (b ∷ bs) h = cons _ _ _ _ (byte_written b h.0).means (quoted_parts_mean bs h.1)
  where
    cons : (a b : ℕ) (xs ys : List ℕ) → a ≡ b → xs ≡ ys → a ∷ xs ≡ b ∷ ys
    cons a b xs ys e f = cc

-- and stands between quotes
pub quoted_is_string : (bytes : List ℕ) → in_quotes bytes ≡ string_text InQuotes (map written_part bytes)
quoted_is_string bytes = refl
