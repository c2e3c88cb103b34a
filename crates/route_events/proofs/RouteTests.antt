-- What the test of routes says: a route passes with itself, and two that pass are one.
use Rattle.std.proofs.Common.{◌≡◌, Bool, true, false, nat_eq, refl, ap, sym, true≢false}
use Rattle.std.specs.Bool.{beq}
use Rattle.std.proofs.lemmas.Bool.{and_from}
use Rattle.alt_base.proofs.Conjunctions.{both}
use Rattle.alt_base.proofs.Numbers.{eq_self, true_eq}
use Rattle.origin_values.specs.declared.protos.Protos.{Protos}
use Rattle.dns_names.specs.Names.{name_eq}
use Rattle.dns_names.proofs.SameNames.{name_self, one_name}
use Rattle.alias_chain.specs.declared.endpoint.Endpoint.{Endpoint}
use Rattle.altsvc_grammar.proofs.KeyTests.{one_key, key_self}
use Rattle.route_events.specs.declared.route.Route.{Route}
use Rattle.route_events.specs.declared.route.Route.TheVariants.{Direct, Alt, Rec}
use Rattle.route_events.specs.Authority.{protos_eq, endpoint_eq, route_eq}

beq_self : (b : Bool) → beq b b ≡ true
beq_self true = refl
beq_self false = refl

one_bool : (a b : Bool) → beq a b ≡ true → a ≡ b
one_bool true true h = refl
one_bool false false h = refl
one_bool true false h = absurd (true≢false (sym h))
one_bool false true h = absurd (true≢false (sym h))

protos_self : (p : Protos) → protos_eq p p ≡ true
protos_self p = and_from _ _ (beq_self p.h2) (and_from _ _ (beq_self p.h3) (beq_self p.http11))

one_protos : (a b : Protos) → protos_eq a b ≡ true → a ≡ b
one_protos a b h =
    let first = both (beq a.h2 b.h2) _ h in
    let others = both (beq a.h3 b.h3) (beq a.http11 b.http11) first.1 in
    λ i. record { h2 = one_bool a.h2 b.h2 first.0 i; h3 = one_bool a.h3 b.h3 others.0 i; http11 = one_bool a.http11 b.http11 others.1 i }

endpoint_self : (e : Endpoint) → endpoint_eq e e ≡ true
endpoint_self e = and_from _ _ (name_self e.target) (and_from _ _ (eq_self e.port) (protos_self e.protos))

one_endpoint : (a b : Endpoint) → endpoint_eq a b ≡ true → a ≡ b
one_endpoint a b h =
    let first = both (name_eq a.target b.target) _ h in
    let others = both (nat_eq a.port b.port) (protos_eq a.protos b.protos) first.1 in
    λ i. record { target = one_name a.target b.target first.0 i; port = true_eq a.port b.port others.0 i; protos = one_protos a.protos b.protos others.1 i }

pub route_self : (r : Route) → route_eq r r ≡ true
route_self Direct = refl
route_self (Alt key) = key_self key
route_self (Rec endpoint) = endpoint_self endpoint

pub one_route : (a b : Route) → route_eq a b ≡ true → a ≡ b
one_route Direct Direct h = refl
one_route Direct (Alt b) h = absurd (true≢false (sym h))
one_route (Alt a) Direct h = absurd (true≢false (sym h))
one_route (Alt a) (Alt b) h = ap Alt ((one_key a b).0 h)
one_route (Rec a) (Rec b) h = ap Rec (one_endpoint a b h)
one_route Direct (Rec b) h = absurd (true≢false (sym h))
one_route (Alt a) (Rec b) h = absurd (true≢false (sym h))
one_route (Rec a) Direct h = absurd (true≢false (sym h))
one_route (Rec a) (Alt b) h = absurd (true≢false (sym h))
