-- Lists of pairs of which no two are one, and how many pass a test.
use Rattle.std.proofs.Common.{◌≡◌, ℕ, ◌+◌, Bool, true, false, cond, ◌||◌, ◌&&◌, not, List, [], ◌∷◌, filter, refl, ap, sym, ◌∙◌, arith}
use Rattle.std.specs.Prelude.{count_by}
use Rattle.std.proofs.lemmas.List.Sums.{sum_by-cons}
use Rattle.origin_values.specs.declared.origin.Origin.{Origin}
use Rattle.route_events.specs.declared.route.Route.{Route}
use Rattle.route_choice.specs.Pairs.{is_pair, is_among, are_distinct, IsNumberOf}
use Rattle.route_choice.proofs.Same.{own, along, turned}
use Rattle.alt_base.proofs.Booleans.{contradicts, first_of_both, second_of_both}
use Rattle.std.proofs.lemmas.Bool.{or_right, or_from, and_from, not-true, not_from_false}

-- the second pair is the first
abbrev is : Origin × Route → Origin × Route → Bool
is p q = is_pair p.0 p.1 q

abbrev among : Origin × Route → List (Origin × Route) → Bool
among p ps = is_among p.0 p.1 ps

abbrev pub without : Origin → Route → List (Origin × Route) → List (Origin × Route)
without o r ps = filter (λ (p : Origin × Route). not (is_pair o r p)) ps

one_pair : (p q : Origin × Route) → is p q ≡ true → p ≡ q
one_pair p q h = along (λ x y. let z : Origin × Route = (x, y) in p ≡ z) p.0 q.0 p.1 q.1 (turned q.0 p.0 q.1 p.1 h) refl

own_pair : (p : Origin × Route) → is p p ≡ true
own_pair p = own p.0 p.1

first_among : (p : Origin × Route) (ps : List (Origin × Route)) → among p (p ∷ ps) ≡ true
first_among p ps = rw (own_pair p) refl

-- a pair that isn't among some is another than each of them
other_than : (p q : Origin × Route) (ps : List (Origin × Route)) → among p ps ≡ false → among q ps ≡ true → is q p ≡ false
other_than p q ps none found = by_test (is q p) refl
  where
    by_test : (w : Bool) → is q p ≡ w → w ≡ false
    by_test true e = contradicts (among p ps) (ap (λ x. among x ps) (sym (one_pair q p e)) ∙ found) none
    by_test false e = refl

among_without : (q p : Origin × Route) (ps : List (Origin × Route)) → among q (without p.0 p.1 ps) ≡ (not (is q p) && among q ps)
among_without q p [] = by_test (is q p)
  where
    by_test : (w : Bool) → false ≡ (not w && false)
    by_test true = refl
    by_test false = refl
among_without q p (s ∷ ps) = by_tests (is p s) (is q s) (is q p) refl refl refl (among_without q p ps)
  where
    by_tests : (a b w : Bool) → is p s ≡ a → is q s ≡ b → is q p ≡ w → among q (without p.0 p.1 ps) ≡ (not w && among q ps)
        → among q (cond (not a) (s ∷ without p.0 p.1 ps) (without p.0 p.1 ps)) ≡ (not w && (b || among q ps))
    by_tests true b true ps qs qp rest = rest
    by_tests true true false ps qs qp rest = contradicts (is q p) (ap (is q) (one_pair p s ps) ∙ qs) qp
    by_tests true false false ps qs qp rest = rest
    by_tests false true true ps qs qp rest = contradicts (is p s) (ap (λ x. is x s) (sym (one_pair q p qp)) ∙ qs) ps
    by_tests false true false ps qs qp rest = rw qs refl
    by_tests false false w ps qs qp rest = rw qs rest

pub distinct_without : (p : Origin × Route) (ps : List (Origin × Route)) → are_distinct ps ≡ true → are_distinct (without p.0 p.1 ps) ≡ true
distinct_without p [] h = refl
distinct_without p (s ∷ ps) h = by_test (is p s) (distinct_without p ps (second_of_both (not (among s ps)) (are_distinct ps) h))
  where
    alone : among s ps ≡ false
    alone = not-true (among s ps) (first_of_both (not (among s ps)) (are_distinct ps) h)

    fewer : (a b : Bool) → b ≡ false → (a && b) ≡ false
    fewer true b h = h
    fewer false b h = refl

    by_test : (a : Bool) → are_distinct (without p.0 p.1 ps) ≡ true → are_distinct (cond (not a) (s ∷ without p.0 p.1 ps) (without p.0 p.1 ps)) ≡ true
    by_test true rest = rest
    by_test false rest =
        and_from (not (among s (without p.0 p.1 ps))) (are_distinct (without p.0 p.1 ps)) (not_from_false (among s (without p.0 p.1 ps)) (among_without s p ps ∙ fewer (not (is s p)) (among s ps) alone)) rest

abbrev one_if : Bool → ℕ
one_if b = cond b 1 0

-- tests that agree on each pair pass as many
pub same_count : (s t : Origin × Route → Bool) (ps : List (Origin × Route)) → ((p : Origin × Route) → is_among p.0 p.1 ps ≡ true → s p ≡ t p) → count_by s ps ≡ count_by t ps
same_count s t [] h = refl
same_count s t (p ∷ ps) h =
    let first : one_if (s p) ≡ one_if (t p) = ap one_if (h p (first_among p ps)) in
    let rest = same_count s t ps (λ q found. h q (or_right (is q p) (among q ps) found)) in
    omega (arith, sum_by-cons (λ q. one_if (s q)) p ps, sum_by-cons (λ q. one_if (t q)) p ps, first, rest)

none_pass : (ps : List (Origin × Route)) → count_by (λ (p : Origin × Route). false) ps ≡ 0
none_pass [] = refl
none_pass (p ∷ ps) = omega (arith, sum_by-cons (λ (q : Origin × Route). one_if false) p ps, none_pass ps)

count_without : (t : Origin × Route → Bool) (p : Origin × Route) (ps : List (Origin × Route)) → are_distinct ps ≡ true → count_by t ps ≡ cond (among p ps) (one_if (t p)) 0 + count_by t (without p.0 p.1 ps)
count_without t p [] h = refl
count_without t p (s ∷ ps) h = by_test (is p s) refl (count_without t p ps (second_of_both (not (among s ps)) (are_distinct ps) h))
  where
    alone : among s ps ≡ false
    alone = not-true (among s ps) (first_of_both (not (among s ps)) (are_distinct ps) h)

    by_test : (a : Bool) → is p s ≡ a → count_by t ps ≡ cond (among p ps) (one_if (t p)) 0 + count_by t (without p.0 p.1 ps)
        → count_by t (s ∷ ps) ≡ cond (a || among p ps) (one_if (t p)) 0 + count_by t (cond (not a) (s ∷ without p.0 p.1 ps) (without p.0 p.1 ps))
    by_test true e rest =
        let same : one_if (t p) ≡ one_if (t s) = ap (λ x. one_if (t x)) (one_pair p s e) in
        let none : cond (among p ps) (one_if (t p)) 0 ≡ 0 = ap (λ w. cond w (one_if (t p)) 0) (ap (λ x. among x ps) (one_pair p s e) ∙ alone) in
        omega (arith, sum_by-cons (λ q. one_if (t q)) s ps, same, none, rest)
    by_test false e rest = omega (arith, sum_by-cons (λ q. one_if (t q)) s ps, sum_by-cons (λ q. one_if (t q)) s (without p.0 p.1 ps), rest)

-- lists outside of which none of the other's passes have as many that pass
one_count : (t : Origin × Route → Bool) (ps qs : List (Origin × Route)) → are_distinct ps ≡ true → are_distinct qs ≡ true
    → ((s : Origin × Route) → among s ps ≡ true → among s qs ≡ false → t s ≡ false) → ((s : Origin × Route) → among s qs ≡ true → among s ps ≡ false → t s ≡ false)
    → count_by t ps ≡ count_by t qs
one_count t [] qs h k outside inside = sym (same_count t (λ p. false) qs (λ s found. inside s found refl) ∙ none_pass qs)
one_count t (p ∷ ps) qs h k outside inside =
    let rest = one_count t ps (without p.0 p.1 qs) (second_of_both (not (among p ps)) (are_distinct ps) h) (distinct_without p qs k) others_outside others_inside in
    let here = first (among p qs) refl in
    omega (arith, sum_by-cons (λ q. one_if (t q)) p ps, count_without t p qs k, rest, here)
  where
    alone : among p ps ≡ false
    alone = not-true (among p ps) (first_of_both (not (among p ps)) (are_distinct ps) h)

    first : (w : Bool) → among p qs ≡ w → cond (among p qs) (one_if (t p)) 0 ≡ one_if (t p)
    first true e = rw e refl
    first false e = rw e (sym (ap one_if (outside p (first_among p ps) e)))

    others_outside : (s : Origin × Route) → among s ps ≡ true → among s (without p.0 p.1 qs) ≡ false → t s ≡ false
    others_outside s found none =
        let other : is s p ≡ false = other_than p s ps alone found in
        outside s (or_right (is s p) (among s ps) found) (sym (ap (λ w. not w && among s qs) other) ∙ sym (among_without s p qs) ∙ none)

    others_inside : (s : Origin × Route) → among s (without p.0 p.1 qs) ≡ true → among s ps ≡ false → t s ≡ false
    others_inside s found none =
        let parts : (not (is s p) && among s qs) ≡ true = sym (among_without s p qs) ∙ found in
        inside s (second_of_both (not (is s p)) (among s qs) parts) (or_from (is s p) (among s ps) (not-true (is s p) (first_of_both (not (is s p)) (among s qs) parts)) none)

pub one_number_of : (s t : Origin → Route → Bool) (m n : ℕ) → ((o : Origin) (r : Route) → s o r ≡ t o r) → IsNumberOf s m → IsNumberOf t n → m ≡ n
one_number_of s t m n agree a b =
    a.count
    ∙ same_count (λ p. s p.0 p.1) (λ p. t p.0 p.1) a.pairs (λ p found. agree p.0 p.1)
    ∙ one_count (λ p. t p.0 p.1) a.pairs b.pairs a.distinct b.distinct (λ p found none. b.elsewhere p.0 p.1 none) (λ p found none. sym (agree p.0 p.1) ∙ a.elsewhere p.0 p.1 none)
    ∙ sym b.count
