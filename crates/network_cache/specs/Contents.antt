-- What a cache holds: for each origin a list of alternatives, the preferred ones first (RFC 7838 2.2), and its newest
-- moment. These are all that the contracts say of it.
use Rattle.std.specs.Prelude.{◌≡◌, ℕ, true, false, List, [], map, filter, length, min, sum_by}
use Rattle.altsvc_grammar.specs.declared.alt.Alt.{Alt}
use Rattle.origin_values.specs.declared.origin.Origin.{Origin}
use Rattle.network_cache.specs.declared.kept.Kept.{Kept}
use Rattle.network_cache.specs.declared.cache.Cache.{Cache}
use Rattle.network_cache.specs.Freshness.{is_fresh}
use Rattle.network_cache.specs.Origins.{is_among, are_distinct}
use Rattle.network_cache.specs.Entries.{kept_in}

-- the alternatives that are kept for an origin, in order
unfoldable pub kept : Cache → Origin → List Kept
kept cache o = kept_in cache.entries.items o

-- the greatest moment that a change was given, 0 before any
unfoldable pub newest_moment : Cache → ℕ
newest_moment cache = cache.newest

-- the alternatives of an origin that are fresh at a moment, in order (RFC 7838 2.2, 3.1)
abbrev pub live : Cache → Origin → ℕ → List Alt
live cache o now = map (λ (k : Kept). k.alt) (filter (is_fresh now) (kept cache o))

-- the second holds what the first does
pub record IsAsBefore (old new : Cache) : Type 0 where
  pub kept : (o : Origin) → kept new o ≡ kept old o
  pub moment : newest_moment new ≡ newest_moment old

-- so many alternatives are fresh at a moment over all origins: over some origins, no two of them one, outside of which
-- nothing is kept
pub record IsTotal (cache : Cache) (now n : ℕ) : Type 0 where
  pub origins : List Origin
  pub distinct : are_distinct origins ≡ true
  pub elsewhere : (o : Origin) → is_among o origins ≡ false → kept cache o ≡ []
  pub sum : n ≡ sum_by (λ o. length (live cache o now)) origins

-- what of the first is fresh at a moment is all that the second holds, for each origin
abbrev pub HoldsFresh : Cache → Cache → ℕ → Type 0
HoldsFresh old new now = (o : Origin) → kept new o ≡ filter (is_fresh now) (kept old o)

-- an answer is the total, or the greatest number of 64 bits where the total is above it
abbrev pub Counts : Cache → ℕ → ℕ → Type 0
Counts cache now answer = (n : ℕ) × (IsTotal cache now n × (answer ≡ min n 18446744073709551615))
