-- Lists of origins.
use Rattle.std.specs.Prelude.{Bool, true, not, ◌&&◌, List, [], ◌∷◌}
use Rattle.std.specs.List.{list_any}
use Rattle.origin_values.specs.Equality.{origin_eq}
use Rattle.origin_values.specs.declared.origin.Origin.{Origin}

-- an origin is one of these
abbrev pub is_among : Origin → List Origin → Bool
is_among o origins = list_any (origin_eq o) origins

-- no two of them are one
abbrev pub are_distinct : List Origin → Bool
are_distinct [] = true
are_distinct (o ∷ origins) = not (is_among o origins) && are_distinct origins
