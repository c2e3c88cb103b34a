-- What the test of names says: a name passes with itself, and two that pass are one.
use Rattle.std.proofs.Common.{◌≡◌, ℕ, true, nat_eq, List, refl, Decides}
use Rattle.std.specs.Cmp.Lexicographic.{pointwise}
use Rattle.std.proofs.lemmas.Bool.Decides.{Decides-eqb}
use Rattle.std.proofs.lemmas.Slice.Eq.{slice_eq-Decides}
use Rattle.dns_names.specs.Names.{name_eq}

pub name_decides : (a b : List (List ℕ)) → Decides (name_eq a b) (a ≡ b)
name_decides a b = slice_eq-Decides (λ x y. slice_eq-Decides Decides-eqb x y (pointwise nat_eq x y) refl) a b (name_eq a b) refl

pub name_self : (name : List (List ℕ)) → name_eq name name ≡ true
name_self name = (name_decides name name).1 refl

pub one_name : (a b : List (List ℕ)) → name_eq a b ≡ true → a ≡ b
one_name a b h = (name_decides a b).0 h
