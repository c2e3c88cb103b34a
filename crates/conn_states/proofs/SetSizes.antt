-- How many different origins an origin set holds.
use Rattle.std.proofs.Common.{◌≡◌, ◌∙◌, ◌+◌, Bool, true, false, cond, not, ◌&&◌, ◌||◌, nat_eq, List, [], ◌∷◌, length, count_by, filter, refl, ap, sym, arith}
use Rattle.std.specs.List.{list_any}
use Rattle.std.proofs.lemmas.List.Sums.{length-filter}
use Rattle.alt_base.proofs.Booleans.{first_of_both, second_of_both}
use Rattle.origin_values.specs.declared.scheme.Scheme.{Scheme}
use Rattle.origin_values.specs.declared.scheme.Scheme.TheVariants.{Http, Https}
use Rattle.origin_values.specs.declared.origin.Origin.{Origin}
use Rattle.origin_values.specs.Equality.{scheme_eq, host_eq, origin_eq}
use Rattle.route_events.specs.Authority.{is_https, is_initial}
use Rattle.route_events.specs.Distinct.{distinct, are_apart}
use Rattle.route_events.specs.declared.connection.Connection.{Connection}
use Rattle.conn_states.specs.Said.{initial_origin}

none_left_out : (k : Origin) (ks : List Origin) → list_any (origin_eq k) ks ≡ false → filter (λ y. not (origin_eq k y)) ks ≡ ks
none_left_out k [] none = refl
none_left_out k (y ∷ ys) none = by_test (origin_eq k y) none (none_left_out k ys)
  where
    by_test : (b : Bool) → (b || list_any (origin_eq k) ys) ≡ false → (list_any (origin_eq k) ys ≡ false → filter (λ z. not (origin_eq k z)) ys ≡ ys) → cond (not b) (y ∷ filter (λ z. not (origin_eq k z)) ys) (filter (λ z. not (origin_eq k z)) ys) ≡ y ∷ ys
    by_test true none rest = cc
    by_test false none rest = ap (λ zs. y ∷ zs) (rest none)

not_true : (b : Bool) → not b ≡ true → b ≡ false
not_true true e = sym e
not_true false e = refl

-- where no two are one, all are different
all_different : (ks : List Origin) → are_apart origin_eq ks ≡ true → distinct origin_eq ks ≡ ks
all_different [] h = refl
all_different (k ∷ ks) h =
    let none : list_any (origin_eq k) ks ≡ false = not_true (list_any (origin_eq k) ks) (first_of_both (not (list_any (origin_eq k) ks)) (are_apart origin_eq ks) h) in
    let rest : are_apart origin_eq ks ≡ true = second_of_both (not (list_any (origin_eq k) ks)) (are_apart origin_eq ks) h in
    ap (λ zs. k ∷ filter (λ y. not (origin_eq k y)) zs) (all_different ks rest) ∙ ap (λ zs. k ∷ zs) (none_left_out k ks none)

https_is : (s : Scheme) → scheme_eq Https s ≡ is_https s
https_is Http = refl
https_is Https = refl

initial_is : (c : Connection) (o : Origin) → origin_eq (initial_origin c) o ≡ is_initial c o
initial_is c o = ap (λ t. t && (host_eq (initial_origin c).host o.host && nat_eq c.port o.port)) (https_is o.scheme)

-- the size of an origin set
pub size_is : (c : Connection) (ks : List Origin) → are_apart origin_eq ks ≡ true → count_by (λ o. not (is_initial c o)) ks + 1 ≡ length (distinct origin_eq (initial_origin c ∷ ks))
size_is c ks h =
    let different : length (filter (λ o. not (origin_eq (initial_origin c) o)) (distinct origin_eq ks)) ≡ length (filter (λ o. not (origin_eq (initial_origin c) o)) ks) = ap (λ zs. length (filter (λ o. not (origin_eq (initial_origin c) o)) zs)) (all_different ks h) in
    let others : length (filter (λ o. not (origin_eq (initial_origin c) o)) ks) ≡ length (filter (λ o. not (is_initial c o)) ks) = (λ i. length (filter (λ o. not (initial_is c o i)) ks)) in
    omega (arith, different, others, length-filter (λ o. not (is_initial c o)) ks)
