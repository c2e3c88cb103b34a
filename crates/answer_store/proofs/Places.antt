-- Places in the queue, and what is in force.
use Rattle.std.proofs.Common.{◌≡◌, ℕ, ◌+◌, ◌-◌, ◌<◌, ◌≤◌, Bool, true, false, cond, not, ◌&&◌, nat_lt, nat_eq, Option, None, Some, List, [], ◌∷◌, refl, sym, ap, ◌∙◌, arith}
use Rattle.std.specs.Prelude.{◌==◌}
use Rattle.std.specs.Cmp.{IsEquivalence, both_tied, unsigned_ties}
use Rattle.std.specs.Option.{IfSome}
use Rattle.std.specs.BTreeSet.{BTreeSet, contains, Updates}
use Rattle.std.specs.Map.{lookup, lookup_key}
use Rattle.std.specs.declared.cmp.Ordering.{Ordering}
use Rattle.std.specs.declared.cmp.Ordering.TheVariants.{Less, Equal, Greater}
use Rattle.std.specs.Ordering.{nat_cmp, ordering_then, is_eq, is_gt}
use Rattle.std.proofs.lemmas.Bool.Decides.{nat_tests}
use Rattle.std.proofs.lemmas.Grind.{common_steps}
use Rattle.std.proofs.lemmas.Map.Keys.{le_from_not_gt}
use Rattle.alt_base.proofs.Numbers.{eq_self}
use Rattle.alias_chain.specs.Held.{in_force}
use Rattle.answer_store.specs.Ends.{ends_at, end_of, is_taken_by}
use Rattle.answer_store.specs.Queue.{place_cmp, is_place}
use Rattle.alias_chain.specs.declared.held.Held.{Held}

first_not_gt : (o r : Ordering) → is_gt (ordering_then o r) ≡ false → is_gt o ≡ false
first_not_gt Less r h = refl
first_not_gt Equal r h = refl
first_not_gt Greater r h = h

-- a place that a key leaves for another
pub left : (ended end e : ℕ) (same old : Bool) → (ended ≡ end → ⊥) → cond ((ended == e) && same) false old ≡ cond (same && (nat_eq ended e && not (end == e))) false old
left ended end e same old apart = grind (arith, nat_tests, common_steps)

in_time : (now moment ttl : ℕ) → now < moment + ttl → not (nat_lt now moment) ≡ true → nat_lt (now - moment) ttl ≡ true
in_time now moment ttl before taken = grind (arith, nat_tests)

here : (w z : Bool) → true ≡ z → cond (w && false) false true ≡ z
here true z h = h
here false z h = h

gone : (w z : Bool) → false ≡ z → cond (w && true) false w ≡ z
gone true z h = h
gone false z h = h

other_end : (m n e : ℕ) → nat_eq m n ≡ true → (n == e) ≡ false → nat_eq m e ≡ false
other_end m n e h k = grind (arith, nat_tests)

module _ {K : Type 0} (cmp : K → K → Ordering) where
  pub not_after : (p q : ℕ × K) → is_gt (place_cmp cmp p q) ≡ false → p.0 ≤ q.0
  not_after p q h = le_from_not_gt p.0 q.0 (first_not_gt (nat_cmp p.0 q.0) (cmp p.1 q.1) h)

  pub place_at : (eq : K → K → Bool) → ((x y : K) → eq x y ≡ is_eq (cmp x y)) → (p q : ℕ × K) → is_eq (place_cmp cmp p q) ≡ is_place eq p q
  place_at eq matches p q = sym (both_tied (p.0 == q.0) (eq p.1 q.1) (nat_cmp p.0 q.0) (cmp p.1 q.1) (unsigned_ties p.0 q.0) (matches p.1 q.1))

  -- the queue without a place
  pub without : (eq : K → K → Bool) → ((x y : K) → eq x y ≡ is_eq (cmp x y)) → (old new : BTreeSet (ℕ × K)) (p : ℕ × K) → Updates (place_cmp cmp) old new p false
      → (e : ℕ) (k : K) → contains (place_cmp cmp) new (e, k) ≡ cond (is_place eq p (e, k)) false (contains (place_cmp cmp) old (e, k))
  without eq matches old new p h e k = h.0 (e, k) ∙ ap (λ w. cond w false (contains (place_cmp cmp) old (e, k))) (place_at eq matches p (e, k))

  pub popped : (eq : K → K → Bool) → ((x y : K) → eq x y ≡ is_eq (cmp x y)) → (old new : BTreeSet (ℕ × K)) (r : Option (ℕ × K)) → IfSome r (λ p. Updates (place_cmp cmp) old new p false)
      → IfSome r (λ p. (e : ℕ) (k : K) → contains (place_cmp cmp) new (e, k) ≡ cond (is_place eq p (e, k)) false (contains (place_cmp cmp) old (e, k)))
  popped eq matches old new None h = tt
  popped eq matches old new (Some p) h = without eq matches old new p h

-- a key that is found passes
pub found_key : {K V : Type 0} (test : K → Bool) (es : List (K × V)) (k : K) → lookup_key test es ≡ Some k → test k ≡ true
found_key test [] k h = cc
found_key {K} {V} test (e ∷ es) k h = by_test (test e.0) refl h (found_key test es k)
  where
    by_test : (w : Bool) → test e.0 ≡ w → cond w (Some e.0) (lookup_key test es) ≡ Some k → (lookup_key test es ≡ Some k → test k ≡ true) → test k ≡ true
    by_test true is h rest = let same : e.0 ≡ k = cc in ap test (sym same) ∙ is
    by_test false is h rest = rest h

module _ {K V : Type 0} (eq : K → K → Bool) where
  -- equal keys have one value
  pub lookup_alike : IsEquivalence eq → (x y : K) → eq x y ≡ true → (es : List (K × V)) → lookup (eq x) es ≡ lookup (eq y) es
  lookup_alike laws x y same [] = refl
  lookup_alike laws x y same (e ∷ es) = ap (λ w. cond w (Some e.1) (lookup (eq x) es)) (laws.congr x y e.0 same) ∙ ap (cond (eq y e.0) (Some e.1)) (lookup_alike laws x y same es)

  -- a key's places, once what it had is taken out
  pub taken_out : (key k : K) (end e : ℕ) (b o : Option (Held V)) → (eq key k ≡ true → b ≡ o) → ends_at end b ≡ true → cond (is_place eq (end, key) (e, k)) false (ends_at e o) ≡ ends_at e (cond (eq key k) None o)
  taken_out key k end e b o before ends = by_tests (eq key k) (end == e) refl refl
    where
      out : (b : Option (Held V)) → ends_at end b ≡ true → (end == e) ≡ false → ends_at e b ≡ false
      out None ends apart = cc
      out (Some h) ends apart = other_end (end_of h) end e ends apart

      by_tests : (same x : Bool) → eq key k ≡ same → (end == e) ≡ x → cond (x && same) false (ends_at e o) ≡ ends_at e (cond same None o)
      by_tests true true same is = refl
      by_tests true false same is = ap (ends_at e) (sym (before same)) ∙ out b ends is
      by_tests false true same is = refl
      by_tests false false same is = refl

  -- a key's places, once a value was put in place of the one before
  pub requeued : (key k : K) (e end : ℕ) (b o : Option (Held V)) (h : Held V) → (eq key k ≡ true → b ≡ o) → end ≡ end_of h
      → cond (eq key k && (ends_at e b && not (end == e))) false (cond (is_place eq (end, key) (e, k)) true (ends_at e o)) ≡ ends_at e (cond (eq key k) (Some h) o)
  requeued key k e end b o h before ends = by_tests (eq key k) (end == e) refl refl
    where
      by_tests : (same x : Bool) → eq key k ≡ same → x ≡ nat_eq end e → cond (same && (ends_at e b && not x)) false (cond (x && same) true (ends_at e o)) ≡ ends_at e (cond same (Some h) o)
      by_tests true true same is = here (ends_at e b) (nat_eq (end_of h) e) (is ∙ ap (λ n. nat_eq n e) ends)
      by_tests true false same is = rw (before same) (gone (ends_at e o) (nat_eq (end_of h) e) (is ∙ ap (λ n. nat_eq n e) ends))
      by_tests false true same is = refl
      by_tests false false same is = refl

module _ {V : Type 0} where
  -- what was taken by now, and ends later, is in force
  pub all_in_force : (o : Option (Held V)) (newest now : ℕ) → newest ≤ now → is_taken_by newest o ≡ true → ((e : ℕ) → ends_at e o ≡ true → now < e) → in_force now o ≡ o
  all_in_force None newest now le taken later = refl
  all_in_force (Some h) newest now le taken later =
      let before = later (end_of h) (eq_self (end_of h)) in
      let by_now : not (nat_lt now h.moment) ≡ true = grind (arith, nat_tests) in
      rw (in_time now h.moment h.ttl before by_now) refl

  -- what has ended is not in force
  pub none_in_force : (o : Option (Held V)) (end now : ℕ) → ends_at end o ≡ true → end ≤ now → in_force now o ≡ None
  none_in_force None end now ends le = refl
  none_in_force (Some h) end now ends le = rw (ended now h.moment h.ttl end ends le) refl
    where
      ended : (now moment ttl end : ℕ) → nat_eq (moment + ttl) end ≡ true → end ≤ now → nat_lt (now - moment) ttl ≡ false
      ended now moment ttl end ends le = grind (arith, nat_tests)

  -- what is held after a put was taken by then
  pub taken_by_then : (same : Bool) (newest now : ℕ) (o : Option (Held V)) (h : Held V) → newest ≤ now → h.moment ≡ now → is_taken_by newest o ≡ true → is_taken_by now (cond same (Some h) o) ≡ true
  taken_by_then true newest now o h le at taken = grind (arith, nat_tests)
  taken_by_then false newest now None h le at taken = refl
  taken_by_then false newest now (Some x) h le at taken = grind (arith, nat_tests)

  pub taken_later : (newest now : ℕ) (o : Option (Held V)) → newest ≤ now → is_taken_by newest o ≡ true → is_taken_by now o ≡ true
  taken_later newest now None le taken = refl
  taken_later newest now (Some h) le taken = grind (arith, nat_tests)

  pub taken_still : (same : Bool) (newest : ℕ) (o : Option (Held V)) → is_taken_by newest o ≡ true → is_taken_by newest (cond same None o) ≡ true
  taken_still true newest o taken = refl
  taken_still false newest o taken = taken

  pub dropped : (same : Bool) (now : ℕ) (o : Option (Held V)) → (same ≡ true → in_force now o ≡ None) → in_force now (cond same None o) ≡ in_force now o
  dropped true now o h = sym (h refl)
  dropped false now o h = refl

  pub replaced : (same : Bool) (h : Held V) (o : Option (Held V)) → cond same (Some h) (cond same None o) ≡ cond same (Some h) o
  replaced true h o = refl
  replaced false h o = refl
