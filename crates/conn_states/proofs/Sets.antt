-- What an index set of origins holds.
use Rattle.std.proofs.Common.{◌≡◌, ◌∙◌, Bool, true, false, List, [], ◌∷◌, refl, subst}
use Rattle.std.specs.List.{list_any, IsDistinct, AllByRecursion}
use Rattle.origin_values.specs.declared.origin.Origin.{Origin}
use Rattle.origin_values.specs.Equality.{origin_eq}
use Rattle.origin_values.specs.contracts.origin.OriginPartialEq.TheImpl as origins
use Rattle.route_events.specs.Distinct.{are_apart}
use Rattle.conn_states.specs.Origins.{is_among}
use Rattle.origin_values.proofs.Equal.{same_origin as same_test, turned_origin as turned}

-- what is looked up
pub looked_up : (o : Origin) (ks : List Origin) → list_any ((origins.eq-value).it o) ks ≡ is_among ks o
looked_up o ks = (λ i. list_any (same_test i o) ks) ∙ (λ i. list_any (λ k. turned o k i) ks)

none_same : (k : Origin) (ks : List Origin) → AllByRecursion (λ y. origin_eq k y ≡ false) ks → list_any (origin_eq k) ks ≡ false
none_same k [] others = refl
none_same k (y ∷ ys) others = rw others.0 (none_same k ys others.1)

distinct_apart : (ks : List Origin) → IsDistinct origin_eq ks → are_apart origin_eq ks ≡ true
unfolding IsDistinct
distinct_apart [] others = refl
distinct_apart (k ∷ ks) others = rw (none_same k ks others.0) (distinct_apart ks others.1)

-- no two are one
pub apart : (ks : List Origin) → IsDistinct (origins.eq-value).it ks → are_apart origin_eq ks ≡ true
apart ks others = distinct_apart ks (subst (λ (same : Origin → Origin → Bool). IsDistinct same ks) same_test others)
