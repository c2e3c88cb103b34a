-- The grammar of a number of seconds (RFC 9111 1.2.2, `delta-seconds`), which is the whole text.
use Rattle.std.specs.Prelude.{◌≡◌, ◌⊎◌, ℕ, false, min, List, [], ◌∷◌, ◌++◌}
use Rattle.std.specs.Char.{is_ascii_digit}
use Rattle.std.specs.Str.Parse.{IsNumeral, digits_value}

-- the value that stands for every larger one
abbrev pub greatest_delta_seconds : ℕ
greatest_delta_seconds = 2147483648

-- one digit or more and nothing else, with this value
pub record SpellsDelta (x : List ℕ) (seconds : ℕ) : Type 0 where
  pub digits : IsNumeral 10 x
  pub value : seconds ≡ min (digits_value 10 x) greatest_delta_seconds

-- a byte that is no digit
pub record HasOther (x : List ℕ) : Type 0 where
  pub before : List ℕ
  pub byte : ℕ
  pub after : List ℕ
  pub text : x ≡ before ++ byte ∷ after
  pub no_digit : is_ascii_digit byte ≡ false

-- no number of seconds
abbrev pub IsNoDelta : List ℕ → Type 0
IsNoDelta x = (x ≡ []) ⊎ HasOther x

-- exactly one value or none, and never both
pub record OneDelta (x : List ℕ) : Type 0 where
  pub some : ((seconds : ℕ) × SpellsDelta x seconds) ⊎ IsNoDelta x
  pub one_value : (n m : ℕ) → SpellsDelta x n → SpellsDelta x m → n ≡ m
  pub not_both : (n : ℕ) → SpellsDelta x n → IsNoDelta x → ⊥
