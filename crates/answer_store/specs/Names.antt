-- Names as keys: their order.
use Rattle.std.specs.Prelude.{ℕ, List, Option, Some}
use Rattle.std.specs.Cmp.Lexicographic.{slice_cmp, slice_partial_cmp}
use Rattle.std.specs.declared.cmp.Ordering.{Ordering}
use Rattle.std.specs.Ordering.{nat_cmp}

-- by the bytes of the labels, from the first label on
abbrev pub name_cmp : List (List ℕ) → List (List ℕ) → Ordering
name_cmp = slice_cmp (slice_cmp nat_cmp)

abbrev pub name_partial_cmp : List (List ℕ) → List (List ℕ) → Option Ordering
name_partial_cmp = slice_partial_cmp (slice_partial_cmp (λ x y. Some (nat_cmp x y)))
