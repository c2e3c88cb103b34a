-- The entries of a cache: an index by origins, with the alternatives that are kept for each.
use Rattle.std.specs.Prelude.{ℕ, ◌+◌, Bool, nat_lt, Option, None, Some, List, [], ◌∷◌, filter, length, if◌then◌else◌}
use Rattle.indexmap.specs.IndexMap.{IndexMap}
use Rattle.origin_values.specs.Equality.{origin_eq}
use Rattle.origin_values.specs.declared.origin.Origin.{Origin}
use Rattle.network_cache.specs.declared.kept.Kept.{Kept}
use Rattle.network_cache.specs.Freshness.{is_fresh}

-- the alternatives that are found, none where there is no entry
abbrev pub all_of : Option (List Kept) → List Kept
all_of None = []
all_of (Some all) = all

-- what stands in an origin's entry
abbrev pub kept_among : List (Origin × List Kept) → Origin → List Kept
kept_among [] o = []
kept_among (e ∷ entries) o = if origin_eq o e.0 then e.1 else kept_among entries o

abbrev pub kept_in : {S : Type 0} → IndexMap Origin (List Kept) S → Origin → List Kept
kept_in items o = kept_among items.entries o

-- an entry whose alternatives pass a test
abbrev pub narrowed : (Kept → Bool) → Origin × List Kept → Origin × List Kept
narrowed p e = (e.0, filter p e.1)

-- something is left in an entry
abbrev pub holds_some : Origin × List Kept → Bool
holds_some e = nat_lt 0 (length e.1)

-- how many alternatives are fresh
abbrev pub fresh_among : ℕ → List (Origin × List Kept) → ℕ
fresh_among now [] = 0
fresh_among now (e ∷ entries) = length (filter (is_fresh now) e.1) + fresh_among now entries
