-- Origins that are one, and lists of origins of which no two are.
use Rattle.std.proofs.Common.{◌≡◌, Bool, true, false, List, refl, ap, sym, ◌∙◌, subst}
use Rattle.origin_values.specs.declared.origin.Origin.{Origin}
use Rattle.origin_values.specs.Equality.{origin_eq}
use Rattle.network_cache.specs.Origins.{is_among}
use Rattle.alt_base.proofs.Booleans.{contradicts}
use Rattle.origin_values.proofs.Equal.{true_origin, origin_self}

-- the test may be turned
pub turned : (a b : Origin) → origin_eq a b ≡ true → origin_eq b a ≡ true
turned a b h = subst (λ (c : Origin). origin_eq c a ≡ true) (true_origin a b h) (origin_self a)

pub turned_not : (a b : Origin) → origin_eq a b ≡ false → origin_eq b a ≡ false
turned_not a b h = by_test (origin_eq b a) refl
  where
    by_test : (w : Bool) → origin_eq b a ≡ w → w ≡ false
    by_test true e = contradicts (origin_eq a b) (turned b a e) h
    by_test false e = refl

-- what is one of two that are one
pub along : (a b c : Origin) → origin_eq a b ≡ true → origin_eq a c ≡ origin_eq b c
along a b c h = ap (λ (x : Origin). origin_eq x c) (true_origin a b h)

pub along_right : (a b c : Origin) → origin_eq b c ≡ true → origin_eq a b ≡ origin_eq a c
along_right a b c h = ap (origin_eq a) (true_origin b c h)

-- an origin that isn't among some is another than each of them
pub other_than : (o q : Origin) (os : List Origin) → is_among o os ≡ false → is_among q os ≡ true → origin_eq q o ≡ false
other_than o q os none found = by_test (origin_eq q o) refl
  where
    by_test : (w : Bool) → origin_eq q o ≡ w → w ≡ false
    by_test true e = contradicts (is_among o os) (ap (λ (x : Origin). is_among x os) (sym (true_origin q o e)) ∙ found) none
    by_test false e = refl
