-- The places of a queue, each a moment and an origin, and their order: by the moments, and at one moment by the origins.
use Rattle.std.specs.Prelude.{ℕ, Bool, ◌==◌, ◌&&◌}
use Rattle.std.specs.declared.cmp.Ordering.{Ordering}
use Rattle.std.specs.Ordering.{nat_cmp, ordering_then}
use Rattle.std.specs.BTreeSet.{BTreeSet, contains}
use Rattle.origin_values.specs.Equality.{origin_eq}
use Rattle.origin_values.specs.declared.origin.Origin.{Origin}
use Rattle.network_cache.specs.OriginOrder.{origin_cmp}

abbrev pub place_cmp : ℕ × Origin → ℕ × Origin → Ordering
place_cmp p q = ordering_then (nat_cmp p.0 q.0) (origin_cmp p.1 q.1)

-- two places are one
abbrev pub is_place : ℕ × Origin → ℕ × Origin → Bool
is_place p q = (p.0 == q.0) && origin_eq p.1 q.1

-- an origin has a place at a moment
abbrev pub is_queued : BTreeSet (ℕ × Origin) → ℕ → Origin → Bool
is_queued queue end o = contains place_cmp queue (end, o)
