-- The ASCII text of an origin (RFC 6454 6.2): the one text that it is written as.
use Rattle.std.specs.Prelude.{◌≡◌, ℕ, List}
use Rattle.origin_values.specs.Valid.{IsOrigin}
use Rattle.origin_values.specs.Written.{origin_text}
use Rattle.origin_values.specs.declared.origin.Origin.{Origin}

pub record SpellsAscii (text : List ℕ) (origin : Origin) : Type 0 where
  pub valid : IsOrigin origin
  pub spelled : text ≡ origin_text origin

-- no origin is written as the text
abbrev pub IsNoOrigin : List ℕ → Type 0
IsNoOrigin text = (origin : Origin) → ¬ (SpellsAscii text origin)
