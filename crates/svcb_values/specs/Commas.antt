-- Items of a list in text.
use Rattle.std.specs.Prelude.{ℕ, List, [], ◌∷◌, ◌++◌}

-- items behind another, each after a comma
abbrev pub behind_commas : List (List ℕ) → List ℕ
behind_commas [] = []
behind_commas (item ∷ items) = 44 ∷ (item ++ behind_commas items)
