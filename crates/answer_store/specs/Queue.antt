-- The places of a queue, each a moment and a key, and their order: by the moments, and at one moment by the keys.
use Rattle.std.specs.Prelude.{ℕ, Bool, ◌==◌, ◌&&◌}
use Rattle.std.specs.declared.cmp.Ordering.{Ordering}
use Rattle.std.specs.Ordering.{nat_cmp, ordering_then}

abbrev pub place_cmp : {K : Type 0} → (K → K → Ordering) → ℕ × K → ℕ × K → Ordering
place_cmp cmp p q = ordering_then (nat_cmp p.0 q.0) (cmp p.1 q.1)

-- two places are one
abbrev pub is_place : {K : Type 0} → (K → K → Bool) → ℕ × K → ℕ × K → Bool
is_place eq p q = (p.0 == q.0) && eq p.1 q.1
