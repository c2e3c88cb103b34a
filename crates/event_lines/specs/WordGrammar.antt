-- The numbers and the words of a line, by how they split.
use Rattle.std.specs.Prelude.{◌≢◌, ℕ, ◌≡◌, ◌≤◌, List, [], ◌∷◌, ◌++◌}
use Rattle.std.specs.Str.Parse.{IsNumeral, digits_value}

-- no zero stands before further digits
abbrev pub NoLeadingZero : List ℕ → Type 0
NoLeadingZero [] = Unit {0}
NoLeadingZero (b ∷ []) = Unit {0}
NoLeadingZero (b ∷ c ∷ bs) = b ≢ 48

-- decimal digits without a leading zero, of a value that is at most so great
pub record SpellsNumber (most : ℕ) (text : List ℕ) (n : ℕ) : Type 0 where
  pub numeral : IsNumeral 10 text
  pub no_zero : NoLeadingZero text
  pub value : n ≡ digits_value 10 text
  pub within : n ≤ most

abbrev pub NoSpace : List ℕ → Type 0
NoSpace [] = Unit {0}
NoSpace (b ∷ bs) = (b ≢ 32) × NoSpace bs

-- no word has a space
abbrev pub AreApart : List (List ℕ) → Type 0
AreApart [] = Unit {0}
AreApart (word ∷ words) = NoSpace word × AreApart words

-- words, each behind exactly one space
abbrev pub spaced : List (List ℕ) → List ℕ
spaced [] = []
spaced (word ∷ words) = 32 ∷ (word ++ spaced words)
