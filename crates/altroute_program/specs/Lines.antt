-- Bytes as lines.
use Rattle.std.specs.Prelude.{ℕ, Bool, true, false, List, [], ◌∷◌, ◌++◌, nat_eq, if◌then◌else◌}

-- bytes as the lines that newlines end, without these, and the rest behind the last newline
pub record Cut : Type 0 where
  pub whole : List (List ℕ)
  pub rest : List ℕ

abbrev pub cut_on : Cut → ℕ → Cut
cut_on c b = if nat_eq b 10 then record { whole = c.whole ++ c.rest ∷ []; rest = [] } else record { whole = c.whole; rest = c.rest ++ b ∷ [] }

abbrev pub cut_from : Cut → List ℕ → Cut
cut_from c [] = c
cut_from c (b ∷ bs) = cut_from (cut_on c b) bs

abbrev pub cut_lines : List ℕ → Cut
cut_lines bytes = cut_from (record { whole = []; rest = [] }) bytes

-- lines, each with its newline, in a row
abbrev pub joined : List (List ℕ) → List ℕ
joined [] = []
joined (line ∷ lines) = (line ++ 10 ∷ []) ++ joined lines

abbrev pub is_empty_bytes : List ℕ → Bool
is_empty_bytes [] = true
is_empty_bytes (b ∷ bs) = false

-- the lines: those that a newline ends and, at the end of the input, a rest that isn't empty
abbrev pub lines_of : Cut → Bool → List (List ℕ)
lines_of c ended = if ended then (if is_empty_bytes c.rest then c.whole else c.whole ++ c.rest ∷ []) else c.whole
