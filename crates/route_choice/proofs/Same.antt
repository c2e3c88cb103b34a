-- An origin and a route that the tests take for another's are the other's.
use Rattle.std.proofs.Common.{◌≡◌, Bool, true, false, ◌&&◌, refl, subst}
use Rattle.origin_values.specs.declared.origin.Origin.{Origin}
use Rattle.origin_values.specs.Equality.{origin_eq}
use Rattle.origin_values.proofs.Equal.{origin_self, true_origin}
use Rattle.route_events.specs.declared.route.Route.{Route}
use Rattle.route_events.specs.Authority.{route_eq}
use Rattle.route_events.proofs.RouteTests.{route_self, one_route}
use Rattle.alt_base.proofs.Booleans.{contradicts, first_of_both, second_of_both}
use Rattle.std.proofs.lemmas.Bool.{and_from}

-- they are their own
pub own : (o : Origin) (r : Route) → (origin_eq o o && route_eq r r) ≡ true
own o r = and_from (origin_eq o o) (route_eq r r) (origin_self o) (route_self r)

same_origin : (o p : Origin) (r s : Route) → (origin_eq o p && route_eq r s) ≡ true → o ≡ p
same_origin o p r s h = true_origin o p (first_of_both (origin_eq o p) (route_eq r s) h)

same_route : (o p : Origin) (r s : Route) → (origin_eq o p && route_eq r s) ≡ true → r ≡ s
same_route o p r s h = one_route r s (second_of_both (origin_eq o p) (route_eq r s) h)

-- what holds of a pair holds of one that is the same
pub along : (P : Origin → Route → Type 0) (o p : Origin) (r s : Route) → (origin_eq o p && route_eq r s) ≡ true → P o r → P p s
along P o p r s h here = subst (λ (x : Origin). P x s) (same_origin o p r s h) (subst (λ (x : Route). P o x) (same_route o p r s h) here)

-- the test may be turned
pub turned : (o p : Origin) (r s : Route) → (origin_eq o p && route_eq r s) ≡ true → (origin_eq p o && route_eq s r) ≡ true
turned o p r s h = along (λ x y. (origin_eq x o && route_eq y r) ≡ true) o p r s h (own o r)

pub turned_not : (o p : Origin) (r s : Route) → (origin_eq o p && route_eq r s) ≡ false → (origin_eq p o && route_eq s r) ≡ false
turned_not o p r s h = by_test (origin_eq p o && route_eq s r) refl
  where
    by_test : (w : Bool) → (origin_eq p o && route_eq s r) ≡ w → w ≡ false
    by_test true e = contradicts (origin_eq o p && route_eq r s) (turned p o s r e) h
    by_test false e = refl

-- one that is the same as two makes them the same
pub joined : (o p q : Origin) (r s t : Route) → (origin_eq o p && route_eq r s) ≡ true → (origin_eq o q && route_eq r t) ≡ true → (origin_eq p q && route_eq s t) ≡ true
joined o p q r s t h k = along (λ x y. (origin_eq x q && route_eq y t) ≡ true) o p r s h k
