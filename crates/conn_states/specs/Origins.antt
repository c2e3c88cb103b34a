-- Lists of origins, each of them once.
use Rattle.std.specs.Prelude.{Bool, not, List, [], ◌++◌, Option, Some, None, filter}
use Rattle.std.specs.List.{list_any}
use Rattle.origin_values.specs.Equality.{origin_eq}
use Rattle.origin_values.specs.declared.origin.Origin.{Origin}
use Rattle.route_events.specs.Distinct.{distinct}

-- a list holds an origin
abbrev pub is_among : List Origin → Origin → Bool
is_among origins o = list_any (λ p. origin_eq p o) origins

-- a list, and behind it the different ones of some origins that it doesn't hold, in the order of their first listing
abbrev pub joined : List Origin → List Origin → List Origin
joined kept origins = kept ++ filter (λ o. not (is_among kept o)) (distinct origin_eq origins)

-- the origins that a list doesn't hold
abbrev pub without : List Origin → List Origin → List Origin
without listed origins = filter (λ o. not (is_among listed o)) origins

-- what was listed, nothing before the first frame
abbrev pub known : Option (List Origin) → List Origin
known None = []
known (Some listed) = listed
