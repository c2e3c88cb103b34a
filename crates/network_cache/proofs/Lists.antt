-- What tests and loops make of lists.
use Rattle.std.proofs.Common.{◌≡◌, ℕ, ◌+◌, ◌-◌, ◌<◌, ◌≤◌, Bool, true, false, cond, nat_lt, List, [], ◌∷◌, ◌++◌, map, filter, take, get_or, length, refl, ap, ◌∙◌, arith}
use Rattle.std.proofs.lemmas.List.{map-append}
use Rattle.std.proofs.lemmas.List.Elements.{filter_more}
use Rattle.network_cache.specs.declared.kept.Kept.{Kept}
use Rattle.network_cache.specs.Freshness.{is_fresh}
use Rattle.alt_base.proofs.Lists.{filter_within}

-- one more item is mapped where it passes a test
pub passed_more : {X Y : Type 0} (p : X → Bool) (f : X → Y) (xs : List X) (i : ℕ) (d : X) → i < length xs → map f (filter p (take (i + 1) xs)) ≡ map f (filter p (take i xs)) ++ cond (p (get_or xs i d)) (f (get_or xs i d) ∷ []) []
passed_more {X} {Y} p f xs i d within =
    ap (map f) (filter_more p xs i d within) ∙ map-append f (filter p (take i xs)) (cond (p (get_or xs i d)) (get_or xs i d ∷ []) []) ∙ ap (λ zs. map f (filter p (take i xs)) ++ zs) (by_test (p (get_or xs i d)))
  where
    by_test : (b : Bool) → map f (cond b (get_or xs i d ∷ []) []) ≡ cond {A = List Y} b (f (get_or xs i d) ∷ []) []
    by_test true = refl
    by_test false = refl

fresh_before : (age moment now t ma : ℕ) → now ≤ t → nat_lt (age + (t - moment)) ma ≡ true → nat_lt (age + (now - moment)) ma ≡ true
fresh_before age moment now t ma h e = grind arith

-- what is fresh at a moment was so before
pub fresh_later : (now t : ℕ) (ks : List Kept) → now ≤ t → filter (is_fresh t) (filter (is_fresh now) ks) ≡ filter (is_fresh t) ks
fresh_later now t ks h = filter_within (is_fresh t) (is_fresh now) ks (λ k e. fresh_before k.age k.moment now t k.alt.ma h e)
