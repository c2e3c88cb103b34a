-- Keys are given in any order, and stand in a record in rising order (RFC 9460 2.1 and 2.2).
use Rattle.std.specs.Prelude.{◌≢◌, ℕ, List, [], ◌∷◌, map}
use Rattle.std.specs.List.Sorted.{IsPermutation, IsStrictlyIncreasing}

-- a key that isn't one of these
abbrev pub IsNew : ℕ → List ℕ → Type 0
IsNew key [] = Unit {0}
IsNew key (other ∷ keys) = (key ≢ other) × IsNew key keys

abbrev pub AreDistinct : List ℕ → Type 0
AreDistinct [] = Unit {0}
AreDistinct (key ∷ keys) = IsNew key keys × AreDistinct keys

-- the same members, in rising keys
pub record IsOrderOf {A : Type 0} (key : A → ℕ) (given ordered : List A) : Type 0 where
  pub same : IsPermutation given ordered
  pub rising : IsStrictlyIncreasing (map key ordered)
