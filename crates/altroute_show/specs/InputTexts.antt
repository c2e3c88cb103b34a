-- The text that an input is.
use Rattle.std.specs.Prelude.{◌≡◌, ◌⊎◌, List, [], ◌∷◌, ◌++◌, ℕ}

pub record EndsInNewline (text : List ℕ) : Type 0 where
  pub front : List ℕ
  pub ends : text ≡ front ++ 10 ∷ []

-- a text with one newline behind it, or a text that ends in none
abbrev pub IsInput : List ℕ → List ℕ → Type 0
IsInput input text = (input ≡ text ++ 10 ∷ []) ⊎ ((input ≡ text) × ¬ (EndsInNewline text))
