-- Pairs of an origin and a route, and how many pass a test.
use Rattle.std.specs.Prelude.{◌≡◌, ℕ, Bool, true, false, not, ◌&&◌, List, [], ◌∷◌, count_by}
use Rattle.std.specs.List.{list_any}
use Rattle.origin_values.specs.Equality.{origin_eq}
use Rattle.origin_values.specs.declared.origin.Origin.{Origin}
use Rattle.route_events.specs.declared.route.Route.{Route}
use Rattle.route_events.specs.Authority.{route_eq}

-- a pair is this origin and this route
abbrev pub is_pair : Origin → Route → Origin × Route → Bool
is_pair o r p = origin_eq p.0 o && route_eq p.1 r

-- the origin and the route are one of these pairs
abbrev pub is_among : Origin → Route → List (Origin × Route) → Bool
is_among o r pairs = list_any (is_pair o r) pairs

-- no two of them are one
abbrev pub are_distinct : List (Origin × Route) → Bool
are_distinct [] = true
are_distinct (p ∷ pairs) = not (is_among p.0 p.1 pairs) && are_distinct pairs

-- so many origins and routes pass a test: they are counted over some pairs, no two of them one, outside of which none
-- passes
pub record IsNumberOf (test : Origin → Route → Bool) (n : ℕ) : Type 0 where
  pub pairs : List (Origin × Route)
  pub distinct : are_distinct pairs ≡ true
  pub elsewhere : (o : Origin) (r : Route) → is_among o r pairs ≡ false → test o r ≡ false
  pub count : n ≡ count_by (λ (p : Origin × Route). test p.0 p.1) pairs
