-- What the classes of bytes of a string hold.
use Rattle.std.proofs.Common.{◌≡◌, ◌≢◌, ℕ, ◌<◌, ◌≤◌, Bool, true, false, List, refl, ap, ◌∙◌, subst, arith}
use Rattle.std.proofs.lemmas.Bool.Decides.{nat_tests}
use Rattle.svcb_values.specs.declared.token.Style.{Style}
use Rattle.svcb_values.specs.declared.token.Style.TheVariants.{Contiguous, InQuotes}
use Rattle.svcb_values.specs.StringGrammar.{is_raw, is_escapable}
use Rattle.svcb_values.specs.StringReading.{raw_class, is_end}
use Rattle.alt_base.specs.Classes.{in_ranges}
use Rattle.alt_base.proofs.Booleans.{contradicts}

-- a byte that isn't in a class isn't one that is
pub other_byte : (class : ℕ → Bool) (b n : ℕ) → class b ≡ true → class n ≡ false → b ≢ n
other_byte class b n has hasnt e = contradicts (class n) (subst (λ m. class m ≡ true) e has) hasnt

-- what a style's table says of a byte
raw_by : (style : Style) (b : ℕ) → in_ranges (raw_class style) b ≡ is_raw style b
raw_by Contiguous b = refl
raw_by InQuotes b = refl

pub raw_by_class : (table : List (ℕ × ℕ)) (style : Style) (b : ℕ) → table ≡ raw_class style → in_ranges table b ≡ is_raw style b
raw_by_class table style b is = ap (λ (ranges : List (ℕ × ℕ)). in_ranges ranges b) is ∙ raw_by style b

pub raw_no_backslash : (style : Style) (b : ℕ) → is_raw style b ≡ true → b ≢ 92
raw_no_backslash Contiguous b h = other_byte (is_raw Contiguous) b 92 h refl
raw_no_backslash InQuotes b h = other_byte (is_raw InQuotes) b 92 h refl

-- a byte that ends a string stands for itself in none of its style
pub raw_no_end : (style : Style) (b : ℕ) → is_raw style b ≡ true → is_end style b ≡ false
raw_no_end Contiguous b h = grind (arith, nat_tests)
raw_no_end InQuotes b h = grind (arith, nat_tests)

pub raw_bound : (style : Style) (b : ℕ) → is_raw style b ≡ true → b < 256
raw_bound Contiguous b h = grind (arith, nat_tests)
raw_bound InQuotes b h = grind (arith, nat_tests)

pub escapable_bound : (style : Style) (b : ℕ) → is_escapable style b ≡ true → b < 256
escapable_bound Contiguous b h = grind (arith, nat_tests)
escapable_bound InQuotes b h = grind (arith, nat_tests)

-- between quotes what is shown and the space stand for themselves, but for the quote and the backslash
pub shown_raw : (b : ℕ) → 32 ≤ b → b ≤ 126 → b ≢ 34 → b ≢ 92 → is_raw InQuotes b ≡ true
shown_raw b low high quote backslash = grind (arith, nat_tests)
