-- The ends of alternatives.
use Rattle.std.proofs.Common.{◌≡◌, ℕ, ◌+◌, ◌-◌, ◌<◌, ◌≤◌, zero, suc, Bool, true, false, cond, not, ◌&&◌, ◌||◌, nat_lt, nat_eq, List, [], ◌∷◌, filter, take, get_or, length, add-one, refl, sym, ap, ◌∙◌, arith}
use Rattle.std.specs.Prelude.{◌==◌}
use Rattle.std.specs.List.{list_any}
use Rattle.std.proofs.lemmas.Bool.Decides.{nat_tests}
use Rattle.std.proofs.lemmas.Bool.{or_right}
use Rattle.std.proofs.lemmas.Map.Views.{any-filter_same}
use Rattle.alt_base.proofs.Numbers.{eq_self, lt_true}
use Rattle.network_cache.specs.declared.kept.Kept.{Kept}
use Rattle.network_cache.specs.Freshness.{is_fresh}
use Rattle.network_cache.specs.Ends.{end_of, ends_at, ends_elsewhere}
use Rattle.network_cache.proofs.Order.{swept}

-- an alternative is fresh exactly before its end
fresh_by_end : (age moment now ma : ℕ) → nat_lt (age + (now - moment)) ma ≡ nat_lt now (cond (nat_lt age ma) (moment + (ma - age)) 0)
fresh_by_end age moment now ma = grind (arith, nat_tests)

before_end : (now : ℕ) (k : Kept) → is_fresh now k ≡ nat_lt now (end_of k)
before_end now k = fresh_by_end k.age k.moment now k.alt.ma

-- one more item
pub any_more : {X : Type 0} (p : X → Bool) (xs : List X) (i : ℕ) (d : X) → i < length xs → list_any p (take (i + 1) xs) ≡ (list_any p (take i xs) || p (get_or xs i d))
any_more {X} p xs i d within = rw add-one (one_more xs i within)
  where
    at_end : (b : Bool) → (b || false) ≡ b
    at_end true = refl
    at_end false = refl

    along : (a b c : Bool) → (a || (b || c)) ≡ ((a || b) || c)
    along true b c = refl
    along false b c = refl

    one_more : (xs : List X) (i : ℕ) → i < length xs → list_any p (take (suc i) xs) ≡ (list_any p (take i xs) || p (get_or xs i d))
    one_more [] i within = absurd (omega arith)
    one_more (x ∷ xs) zero within = at_end (p x)
    one_more (x ∷ xs) (suc i) within = ap (λ w. p x || w) (one_more xs i (omega arith)) ∙ along (p x) (list_any p (take i xs)) (p (get_or xs i d))

elsewhere : (m p e : ℕ) → nat_eq m e ≡ true → not (nat_eq m p) ≡ not (nat_eq p e)
elsewhere m p e h = grind (arith, nat_tests)

-- an origin's places, once its alternatives that end at a moment are dropped
pub dropped_at : (p e : ℕ) (same : Bool) (ks : List Kept) → cond ((p == e) && same) false (list_any (ends_at e) ks) ≡ list_any (ends_at e) (cond same (filter (ends_elsewhere p) ks) ks)
dropped_at p e true ks = by_test (p == e) (list_any (ends_at e) ks) ∙ sym (any-filter_same (ends_at e) (ends_elsewhere p) (not (p == e)) (λ k h. elsewhere (end_of k) p e h) ks)
  where
    by_test : (x w : Bool) → cond (x && true) false w ≡ (not x && w)
    by_test true w = refl
    by_test false w = refl
dropped_at p e false ks = by_test (p == e) (list_any (ends_at e) ks)
  where
    by_test : (x w : Bool) → cond (x && false) false w ≡ w
    by_test true w = refl
    by_test false w = refl

later_elsewhere : (now e m : ℕ) → e ≤ now → nat_lt now m ≡ true → not (nat_eq m e) ≡ true
later_elsewhere now e m le h = grind (arith, nat_tests)

-- what is dropped at a moment had ended by then
pub ended_dropped : (now e : ℕ) (same : Bool) (ks : List Kept) → e ≤ now → filter (is_fresh now) (cond same (filter (ends_elsewhere e) ks) ks) ≡ filter (is_fresh now) ks
ended_dropped now e false ks le = refl
ended_dropped now e true [] le = refl
ended_dropped now e true (k ∷ ks) le = by_tests (ends_elsewhere e k) (is_fresh now k) refl refl (ended_dropped now e true ks le)
  where
    by_tests : (w x : Bool) → ends_elsewhere e k ≡ w → is_fresh now k ≡ x → filter (is_fresh now) (filter (ends_elsewhere e) ks) ≡ filter (is_fresh now) ks
        → filter (is_fresh now) (cond w (k ∷ filter (ends_elsewhere e) ks) (filter (ends_elsewhere e) ks)) ≡ cond x (k ∷ filter (is_fresh now) ks) (filter (is_fresh now) ks)
    by_tests true true wi xi rest = rw xi (ap (λ l. k ∷ l) rest)
    by_tests true false wi xi rest = rw xi rest
    by_tests false true wi xi rest = let both : false ≡ true = sym wi ∙ later_elsewhere now e (end_of k) le (sym (before_end now k) ∙ xi) in cc
    by_tests false false wi xi rest = rest

-- alternatives whose ends are all later stay
pub all_fresh : (now : ℕ) (ks : List Kept) → ((e : ℕ) → list_any (ends_at e) ks ≡ true → now < e) → filter (is_fresh now) ks ≡ ks
all_fresh now [] later = refl
all_fresh now (k ∷ ks) later =
    let here : is_fresh now k ≡ true = before_end now k ∙ lt_true now (end_of k) (later (end_of k) (ap (λ w. w || list_any (ends_at (end_of k)) ks) (eq_self (end_of k)))) in
    rw here (ap (λ l. k ∷ l) (all_fresh now ks (λ e h. later e (or_right (ends_at e k) (list_any (ends_at e) ks) h))))

-- a test that passes on some of those that are left passes on one of all
pub any_within : {X : Type 0} (t p : X → Bool) (xs : List X) → list_any t (filter p xs) ≡ true → list_any t xs ≡ true
any_within t p [] h = h
any_within {X} t p (x ∷ xs) h = by_test (p x) h (any_within t p xs)
  where
    by_head : (a : Bool) → (a || list_any t (filter p xs)) ≡ true → (list_any t (filter p xs) ≡ true → list_any t xs ≡ true) → (a || list_any t xs) ≡ true
    by_head true h rest = refl
    by_head false h rest = rest h

    by_test : (w : Bool) → list_any t (cond w (x ∷ filter p xs) (filter p xs)) ≡ true → (list_any t (filter p xs) ≡ true → list_any t xs ≡ true) → (t x || list_any t xs) ≡ true
    by_test true h rest = by_head (t x) h rest
    by_test false h rest = or_right (t x) (list_any t xs) (rest h)

-- the places of what is left
pub swept_within : (same : Bool) (p : Kept → Bool) (e : ℕ) (ks : List Kept) → (list_any (ends_at e) (cond same (filter p ks) ks) && list_any (ends_at e) ks) ≡ list_any (ends_at e) (cond same (filter p ks) ks)
swept_within true p e ks = swept (list_any (ends_at e) (filter p ks)) (list_any (ends_at e) ks) (any_within (ends_at e) p ks)
swept_within false p e ks = swept (list_any (ends_at e) ks) (list_any (ends_at e) ks) (λ h. h)
