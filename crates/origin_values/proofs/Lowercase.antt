-- Texts in lower case.
use Rattle.std.proofs.Common.{◌≡◌, ℕ, List, [], ◌∷◌, length, map, refl, arith}
use Rattle.std.specs.Char.{to_ascii_lowercase}

pub length_lower : (text : List ℕ) → length (map to_ascii_lowercase text) ≡ length text
length_lower [] = refl
length_lower (b ∷ bs) = omega (arith, length_lower bs)
