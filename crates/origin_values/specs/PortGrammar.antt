-- The digits of a port that stand alone: in the authority of an alternative, in Alt-Used, and in record text.
use Rattle.std.specs.Prelude.{◌≡◌, ℕ, ◌≤◌, List, length}
use Rattle.std.specs.Str.Parse.{IsNumeral, digits_value}

-- one to five digits, maybe with leading zeros, of a number of 16 bits
pub record SpellsPortDigits (digits : List ℕ) (port : ℕ) : Type 0 where
  pub numeral : IsNumeral 10 digits
  pub short : length digits ≤ 5
  pub value : digits_value 10 digits ≡ port
  pub most : port ≤ 65535
