-- The octets that hex digits spell.
use Rattle.std.specs.Prelude.{◌≡◌, ◌+◌, ◌*◌, ℕ, List, [], ◌∷◌, Some}
use Rattle.hex.specs.Hex.{hex_digit_value}

-- an octet in two hex digits of either case, the high one first
pub record SpellsOctet (high low octet : ℕ) : Type 0 where
  pub upper : ℕ
  pub lower : ℕ
  pub of_high : hex_digit_value high ≡ Some upper
  pub of_low : hex_digit_value low ≡ Some lower
  pub value : octet ≡ upper * 16 + lower

-- two hex digits for each octet
abbrev pub SpellsHex : List ℕ → List ℕ → Type 0
SpellsHex [] [] = Unit {0}
SpellsHex (high ∷ low ∷ digits) (octet ∷ octets) = SpellsOctet high low octet × SpellsHex digits octets
SpellsHex _ _ = ⊥
