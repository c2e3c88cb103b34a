-- Lists of origins without one of them.
use Rattle.std.proofs.Common.{◌≡◌, Bool, true, false, cond, ◌||◌, not, List, [], ◌∷◌, ◌++◌, filter, refl, ap, sym, ◌∙◌, true≢false}
use Rattle.std.specs.List.{list_any}
use Rattle.std.specs.Set.{remove_key}
use Rattle.origin_values.specs.Equality.{origin_eq}
use Rattle.origin_values.specs.declared.origin.Origin.{Origin}
use Rattle.origin_values.proofs.Equal.{one_origin}

-- the others
abbrev pub others : Origin → List Origin → List Origin
others o origins = filter (λ p. not (origin_eq o p)) origins

-- the key to be removed isn't in front
pub removed_behind : {X : Type 0} (test : X → Bool) (xs : List X) (x : X) → test x ≡ false → remove_key test (xs ++ x ∷ []) ≡ remove_key test xs ++ x ∷ []
removed_behind test [] x h = rw h refl
removed_behind {X} test (y ∷ xs) x h = by_test (test y) (removed_behind test xs x h)
  where
    by_test : (t : Bool) → remove_key test (xs ++ x ∷ []) ≡ remove_key test xs ++ x ∷ [] → cond t (xs ++ x ∷ []) (y ∷ remove_key test (xs ++ x ∷ [])) ≡ cond t xs (y ∷ remove_key test xs) ++ x ∷ []
    by_test true rest = refl
    by_test false rest = ap (λ zs. y ∷ zs) rest

-- it is the last one
pub removed_last : {X : Type 0} (test : X → Bool) (xs : List X) (x : X) → list_any test xs ≡ false → test x ≡ true → remove_key test (xs ++ x ∷ []) ≡ xs
removed_last test [] x none h = rw h refl
removed_last {X} test (y ∷ xs) x none h = by_test (test y) none (λ rest. removed_last test xs x rest h)
  where
    by_test : (t : Bool) → (t || list_any test xs) ≡ false → (list_any test xs ≡ false → remove_key test (xs ++ x ∷ []) ≡ xs) → cond t (xs ++ x ∷ []) (y ∷ remove_key test (xs ++ x ∷ [])) ≡ y ∷ xs
    by_test true none rest = absurd (true≢false none)
    by_test false none rest = ap (λ zs. y ∷ zs) (rest none)

-- nothing to leave out
pub all_others : (o : Origin) (origins : List Origin) → list_any (origin_eq o) origins ≡ false → others o origins ≡ origins
all_others o [] none = refl
all_others o (p ∷ origins) none = by_test (origin_eq o p) none (all_others o origins)
  where
    by_test : (t : Bool) → (t || list_any (origin_eq o) origins) ≡ false → (list_any (origin_eq o) origins ≡ false → others o origins ≡ origins) → cond (not t) (p ∷ others o origins) (others o origins) ≡ p ∷ origins
    by_test true none rest = absurd (true≢false none)
    by_test false none rest = ap (λ zs. p ∷ zs) (rest none)

-- it isn't among the others
pub not_among_others : (o : Origin) (origins : List Origin) → list_any (origin_eq o) (others o origins) ≡ false
not_among_others o [] = refl
not_among_others o (p ∷ origins) = by_test (origin_eq o p) refl (not_among_others o origins)
  where
    by_test : (t : Bool) → origin_eq o p ≡ t → list_any (origin_eq o) (others o origins) ≡ false → list_any (origin_eq o) (cond (not t) (p ∷ others o origins) (others o origins)) ≡ false
    by_test true e rest = rest
    by_test false e rest = rw e rest

-- any other one is among them as before
pub among_others : (o q : Origin) (origins : List Origin) → origin_eq q o ≡ false → list_any (origin_eq q) (others o origins) ≡ list_any (origin_eq q) origins
among_others o q [] h = refl
among_others o q (p ∷ origins) h = by_test (origin_eq o p) refl (among_others o q origins h)
  where
    by_test : (t : Bool) → origin_eq o p ≡ t → list_any (origin_eq q) (others o origins) ≡ list_any (origin_eq q) origins → list_any (origin_eq q) (cond (not t) (p ∷ others o origins) (others o origins)) ≡ (origin_eq q p || list_any (origin_eq q) origins)
    by_test true e rest = let other : origin_eq q p ≡ false = ap (origin_eq q) (sym ((one_origin o p).0 e)) ∙ h in rw other rest
    by_test false e rest = ap (λ t. origin_eq q p || t) rest
