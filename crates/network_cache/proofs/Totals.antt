-- The sum over origins is one, whichever are summed over, and over entries it is the entries' sum.
use Rattle.std.proofs.Common.{◌≡◌, ℕ, ◌+◌, ◌≤◌, Bool, true, false, cond, ◌||◌, ◌&&◌, not, List, [], ◌∷◌, map, filter, length, sum_by, refl, ap, sym, ◌∙◌, arith}
use Rattle.std.specs.Prelude.{min}
use Rattle.std.specs.Map.{keys_of}
use Rattle.std.proofs.lemmas.List.{length-map}
use Rattle.std.proofs.lemmas.List.Sums.{sum_by-cons}
use Rattle.origin_values.specs.declared.origin.Origin.{Origin}
use Rattle.origin_values.specs.Equality.{origin_eq}
use Rattle.network_cache.specs.declared.kept.Kept.{Kept}
use Rattle.network_cache.specs.declared.cache.Cache.{Cache}
use Rattle.network_cache.specs.Freshness.{is_fresh}
use Rattle.network_cache.specs.Origins.{is_among, are_distinct}
use Rattle.network_cache.specs.Entries.{kept_among, fresh_among}
use Rattle.network_cache.specs.Contents.{kept, live, IsTotal, HoldsFresh}
use Rattle.network_cache.proofs.Lists.{fresh_later}
use Rattle.network_cache.proofs.Origins.{along, along_right, other_than}
use Rattle.alt_base.proofs.Booleans.{contradicts, first_of_both, second_of_both}
use Rattle.std.proofs.lemmas.Bool.{or_left, or_right, or_from, and_from, not-true, not_from_false}
use Rattle.origin_values.proofs.Equal.{true_origin, origin_self}

-- sums over origins

sum_same : (f g : Origin → ℕ) (os : List Origin) → ((o : Origin) → is_among o os ≡ true → f o ≡ g o) → sum_by f os ≡ sum_by g os
sum_same f g [] h = refl
sum_same f g (o ∷ os) h =
    let first = h o (or_left (origin_eq o o) (is_among o os) (origin_self o)) in
    let rest = sum_same f g os (λ q found. h q (or_right (origin_eq q o) (is_among q os) found)) in
    omega (arith, sum_by-cons f o os, sum_by-cons g o os, first, rest)

sum_none : (f : Origin → ℕ) (os : List Origin) → ((o : Origin) → is_among o os ≡ true → f o ≡ 0) → sum_by f os ≡ 0
sum_none f [] h = refl
sum_none f (o ∷ os) h =
    let first = h o (or_left (origin_eq o o) (is_among o os) (origin_self o)) in
    let rest = sum_none f os (λ q found. h q (or_right (origin_eq q o) (is_among q os) found)) in
    omega (arith, sum_by-cons f o os, first, rest)

abbrev without : Origin → List Origin → List Origin
without o os = filter (λ q. not (origin_eq o q)) os

among_without : (q o : Origin) (os : List Origin) → is_among q (without o os) ≡ (not (origin_eq q o) && is_among q os)
among_without q o [] = by_test (origin_eq q o)
  where
    by_test : (w : Bool) → false ≡ (not w && false)
    by_test true = refl
    by_test false = refl
among_without q o (p ∷ ps) = by_tests (origin_eq o p) (origin_eq q p) (origin_eq q o) refl refl refl (among_without q o ps)
  where
    by_tests : (a b w : Bool) → origin_eq o p ≡ a → origin_eq q p ≡ b → origin_eq q o ≡ w → is_among q (without o ps) ≡ (not w && is_among q ps) → is_among q (cond (not a) (p ∷ without o ps) (without o ps)) ≡ (not w && (b || is_among q ps))
    by_tests true b true op qp qo rest = rest
    by_tests true true false op qp qo rest = contradicts (origin_eq q o) (along_right q o p op ∙ qp) qo
    by_tests true false false op qp qo rest = rest
    by_tests false true true op qp qo rest = contradicts (origin_eq o p) (sym (along q o p qo) ∙ qp) op
    by_tests false true false op qp qo rest = rw qp refl
    by_tests false false w op qp qo rest = rw qp rest

distinct_without : (o : Origin) (os : List Origin) → are_distinct os ≡ true → are_distinct (without o os) ≡ true
distinct_without o [] h = refl
distinct_without o (p ∷ ps) h = by_test (origin_eq o p) (distinct_without o ps (second_of_both (not (is_among p ps)) (are_distinct ps) h))
  where
    alone : is_among p ps ≡ false
    alone = not-true (is_among p ps) (first_of_both (not (is_among p ps)) (are_distinct ps) h)

    fewer : (a b : Bool) → b ≡ false → (a && b) ≡ false
    fewer true b h = h
    fewer false b h = refl

    by_test : (a : Bool) → are_distinct (without o ps) ≡ true → are_distinct (cond (not a) (p ∷ without o ps) (without o ps)) ≡ true
    by_test true rest = rest
    by_test false rest = and_from (not (is_among p (without o ps))) (are_distinct (without o ps)) (not_from_false (is_among p (without o ps)) (among_without p o ps ∙ fewer (not (origin_eq p o)) (is_among p ps) alone)) rest

sum_without : (f : Origin → ℕ) (o : Origin) (os : List Origin) → are_distinct os ≡ true → sum_by f os ≡ cond (is_among o os) (f o) 0 + sum_by f (without o os)
sum_without f o [] h = refl
sum_without f o (p ∷ ps) h = by_test (origin_eq o p) refl (sum_without f o ps (second_of_both (not (is_among p ps)) (are_distinct ps) h))
  where
    alone : is_among p ps ≡ false
    alone = not-true (is_among p ps) (first_of_both (not (is_among p ps)) (are_distinct ps) h)

    by_test : (a : Bool) → origin_eq o p ≡ a → sum_by f ps ≡ cond (is_among o ps) (f o) 0 + sum_by f (without o ps) → sum_by f (p ∷ ps) ≡ cond (a || is_among o ps) (f o) 0 + sum_by f (cond (not a) (p ∷ without o ps) (without o ps))
    by_test true op rest =
        let same : f o ≡ f p = ap f (true_origin o p op) in
        let none : cond (is_among o ps) (f o) 0 ≡ 0 = ap (λ w. cond w (f o) 0) (ap (λ (x : Origin). is_among x ps) (true_origin o p op) ∙ alone) in
        omega (arith, sum_by-cons f p ps, same, none, rest)
    by_test false op rest = omega (arith, sum_by-cons f p ps, sum_by-cons f p (without o ps), rest)

-- two lists of origins outside of which there is nothing have one sum
one_sum : (f : Origin → ℕ) (os ps : List Origin) → are_distinct os ≡ true → are_distinct ps ≡ true
    → ((q : Origin) → is_among q os ≡ true → is_among q ps ≡ false → f q ≡ 0) → ((q : Origin) → is_among q ps ≡ true → is_among q os ≡ false → f q ≡ 0) → sum_by f os ≡ sum_by f ps
one_sum f [] ps h k outside inside = sym (sum_none f ps (λ q found. inside q found refl))
one_sum f (o ∷ os) ps h k outside inside =
    let rest = one_sum f os (without o ps) (second_of_both (not (is_among o os)) (are_distinct os) h) (distinct_without o ps k) others_outside others_inside in
    let here = first (is_among o ps) refl in
    omega (arith, sum_by-cons f o os, sum_without f o ps k, rest, here)
  where
    alone : is_among o os ≡ false
    alone = not-true (is_among o os) (first_of_both (not (is_among o os)) (are_distinct os) h)

    first : (w : Bool) → is_among o ps ≡ w → cond (is_among o ps) (f o) 0 ≡ f o
    first true e = rw e refl
    first false e = rw e (sym (outside o (or_left (origin_eq o o) (is_among o os) (origin_self o)) e))

    others_outside : (q : Origin) → is_among q os ≡ true → is_among q (without o ps) ≡ false → f q ≡ 0
    others_outside q found none =
        let other : origin_eq q o ≡ false = other_than o q os alone found in
        outside q (or_right (origin_eq q o) (is_among q os) found) (sym (ap (λ w. not w && is_among q ps) other) ∙ sym (among_without q o ps) ∙ none)

    others_inside : (q : Origin) → is_among q (without o ps) ≡ true → is_among q os ≡ false → f q ≡ 0
    others_inside q found none =
        let parts : (not (origin_eq q o) && is_among q ps) ≡ true = sym (among_without q o ps) ∙ found in
        inside q (second_of_both (not (origin_eq q o)) (is_among q ps) parts) (or_from (origin_eq q o) (is_among q os) (not-true (origin_eq q o) (first_of_both (not (origin_eq q o)) (is_among q ps) parts)) none)

nothing_live : (now : ℕ) (ks : List Kept) → ks ≡ [] → length (map (λ (k : Kept). k.alt) (filter (is_fresh now) ks)) ≡ 0
nothing_live now ks h = rw h refl

pub one_total_of : (cache : Cache) (now m n : ℕ) → IsTotal cache now m → IsTotal cache now n → m ≡ n
one_total_of cache now m n a b =
    a.sum
    ∙ one_sum (λ o. length (live cache o now)) a.origins b.origins a.distinct b.distinct (λ q found none. nothing_live now (kept cache q) (b.elsewhere q none)) (λ q found none. nothing_live now (kept cache q) (a.elsewhere q none))
    ∙ sym b.sum

-- to drop what isn't fresh changes no later answer

pub live_later : (old new : Cache) (now t : ℕ) → now ≤ t → HoldsFresh old new now → (o : Origin) → live new o t ≡ live old o t
live_later old new now t h fresh o = ap (λ (ks : List Kept). map (λ (k : Kept). k.alt) (filter (is_fresh t) ks)) (fresh o) ∙ ap (λ (ks : List Kept). map (λ (k : Kept). k.alt) ks) (fresh_later now t (kept old o) h)

pub total_later : (old new : Cache) (now t n : ℕ) → now ≤ t → HoldsFresh old new now → IsTotal old t n → IsTotal new t n
total_later old new now t n h fresh total = record {
  origins = total.origins;
  distinct = total.distinct;
  elsewhere = λ o none. fresh o ∙ ap (filter (is_fresh now)) (total.elsewhere o none);
  sum = total.sum ∙ sum_same (λ o. length (live old o t)) (λ o. length (live new o t)) total.origins (λ o found. ap length (sym (live_later old new now t h fresh o)));
}

-- the sum over the entries

-- nothing is left to count
pub all_counted : (total left all top : ℕ) → total ≤ top → left ≡ 0 → min (total + left) top ≡ min all top → total ≡ min all top
all_counted total left all top fits none sum = omega arith

abbrev fresh_of : ℕ → List (Origin × List Kept) → Origin → ℕ
fresh_of now es o = length (map (λ (k : Kept). k.alt) (filter (is_fresh now) (kept_among es o)))

pub fresh_sum : (now : ℕ) (es : List (Origin × List Kept)) → are_distinct (keys_of es) ≡ true → fresh_among now es ≡ sum_by (λ o. length (map (λ (k : Kept). k.alt) (filter (is_fresh now) (kept_among es o)))) (keys_of es)
fresh_sum now [] h = refl
fresh_sum now (e ∷ es) h =
    let rest = fresh_sum now es (second_of_both (not (is_among e.0 (keys_of es))) (are_distinct (keys_of es)) h) in
    let same = sum_same (fresh_of now es) (fresh_of now (e ∷ es)) (keys_of es) (λ o found. elsewhere o found) in
    omega (arith, sum_by-cons (fresh_of now (e ∷ es)) e.0 (keys_of es), rest, same, here)
  where
    here : fresh_of now (e ∷ es) e.0 ≡ length (filter (is_fresh now) e.1)
    here = rw (origin_self e.0) (length-map (filter (is_fresh now) e.1) (λ (k : Kept). k.alt))

    alone : is_among e.0 (keys_of es) ≡ false
    alone = not-true (is_among e.0 (keys_of es)) (first_of_both (not (is_among e.0 (keys_of es))) (are_distinct (keys_of es)) h)

    elsewhere : (o : Origin) → is_among o (keys_of es) ≡ true → fresh_of now es o ≡ fresh_of now (e ∷ es) o
    elsewhere o found = ap (λ w. length (map (λ (k : Kept). k.alt) (filter (is_fresh now) (cond w e.1 (kept_among es o))))) (sym (other_than e.0 o (keys_of es) alone found))
