-- Putting in order: there is one list in ascending keys that keeps the order of those with one key.
use Rattle.std.proofs.Common.{◌≡◌, ℕ, zero, suc, ◌+◌, ◌<◌, ◌≤◌, Bool, true, false, ◌&&◌, not, cond, nat_eq, nat_lt, nat_le, List, [], ◌∷◌, ◌++◌, length, get_or, take, map, filter, All, refl, sym, ◌∙◌, ap, arith}
use Rattle.std.specs.List.Sorted.{IsSortedByKey, IsStableByKey, IsNonDecreasingBy, ties}
use Rattle.std.specs.Ordering.{nat_cmp, is_lt}
use Rattle.std.specs.declared.cmp.Ordering.TheVariants.{Less, Equal, Greater}
use Rattle.std.proofs.lemmas.Bool.Decides.{nat_tests}
use Rattle.std.proofs.lemmas.List.{map-append}
use Rattle.std.proofs.lemmas.List.Elements.{All-cons, All-head, All-tail, All-nil, All-weaker, filter_agree, filter_more}
use Rattle.std.proofs.lemmas.List.Sorted.{IsNonDecreasingBy-from_sort}
use Rattle.alias_chain.specs.Following.{insert_by, ascending}

ties_is : (a b : ℕ) → (not (is_lt (nat_cmp a b)) && not (is_lt (nat_cmp b a))) ≡ nat_eq a b
ties_is a b = by_tests (nat_lt a b) (nat_eq a b) (nat_lt b a) (nat_eq b a) refl refl refl refl
  where
    by_tests : (l e m f : Bool) → nat_lt a b ≡ l → nat_eq a b ≡ e → nat_lt b a ≡ m → nat_eq b a ≡ f → (not (is_lt (cond l Less (cond e Equal Greater))) && not (is_lt (cond m Less (cond f Equal Greater)))) ≡ e
    by_tests true true m f il ie im iF = absurd (grind (arith, nat_tests))
    by_tests true false m f il ie im iF = refl
    by_tests false true true f il ie im iF = absurd (grind (arith, nat_tests))
    by_tests false true false true il ie im iF = refl
    by_tests false true false false il ie im iF = refl
    by_tests false false true f il ie im iF = refl
    by_tests false false false f il ie im iF = absurd (grind (arith, nat_tests))

not_below : (a b : ℕ) → a ≤ b → is_lt (nat_cmp b a) ≡ false
not_below a b le = by_tests (nat_lt b a) (nat_eq b a) refl
  where
    by_tests : (l e : Bool) → nat_lt b a ≡ l → is_lt (cond l Less (cond e Equal Greater)) ≡ false
    by_tests true e is = absurd (grind (arith, nat_tests))
    by_tests false true is = refl
    by_tests false false is = refl

module _ {X : Type 0} where
  -- whether an element has the key of another
  abbrev pub same_key : (X → ℕ) → X → X → Bool
  same_key key z x = nat_eq (key z) (key x)

  -- a stable order keeps those of each key
  pub kept_from : (key : X → ℕ) (xs ys : List X) → IsStableByKey key nat_cmp xs ys → (z : X) → filter (same_key key z) ys ≡ filter (same_key key z) xs
  kept_from key xs ys stable z =
      let t = λ (x : X). ties (λ a b. is_lt (nat_cmp (key a) (key b))) z x in
      sym (filter_agree t (same_key key z) (λ x. ties_is (key z) (key x)) ys) ∙ stable z ∙ filter_agree t (same_key key z) (λ x. ties_is (key z) (key x)) xs

  pub stable_from : (key : X → ℕ) (xs ys : List X) → ((z : X) → filter (same_key key z) ys ≡ filter (same_key key z) xs) → IsStableByKey key nat_cmp xs ys
  stable_from key xs ys kept = λ z.
      let t = λ (x : X). ties (λ a b. is_lt (nat_cmp (key a) (key b))) z x in
      filter_agree t (same_key key z) (λ x. ties_is (key z) (key x)) ys ∙ kept z ∙ sym (filter_agree t (same_key key z) (λ x. ties_is (key z) (key x)) xs)

  pub sorted_from : (key : X → ℕ) (xs : List X) → IsNonDecreasingBy key xs → IsSortedByKey key nat_cmp xs
  sorted_from key xs up = λ k d low high. not_below (key (get_or xs k d)) (key (get_or xs (k + 1) d)) (up k (k + 1) d (omega arith) high)

  rises_cons : (key : X → ℕ) (x : X) (xs : List X) → All (λ y. key x ≤ key y) xs → IsNonDecreasingBy key xs → IsNonDecreasingBy key (x ∷ xs)
  rises_cons key x xs above up zero zero d le high = omega arith
  rises_cons key x xs above up zero (suc j) d le high = above j d (omega arith)
  rises_cons key x xs above up (suc i) zero d le high = absurd (omega arith)
  rises_cons key x xs above up (suc i) (suc j) d le high = up i j d (omega arith) (omega arith)

  rises_head : (key : X → ℕ) (x : X) (xs : List X) → IsNonDecreasingBy key (x ∷ xs) → All (λ y. key x ≤ key y) xs
  rises_head key x xs up = λ k d h. up 0 (suc k) d (omega arith) (omega arith)

  rises_tail : (key : X → ℕ) (x : X) (xs : List X) → IsNonDecreasingBy key (x ∷ xs) → IsNonDecreasingBy key xs
  rises_tail key x xs up = λ i j d le high. up (suc i) (suc j) d (omega arith) (omega arith)

  insert_all : (P : X → Type 0) (key : X → ℕ) (x : X) (ys : List X) → P x → All P ys → All P (insert_by key x ys)
  insert_all P key x [] p all = All-cons P x [] p all
  insert_all P key x (y ∷ ys) p all = by_test (insert_all P key x ys p (All-tail P y ys all)) (nat_le (key x) (key y))
    where
      by_test : All P (insert_by key x ys) → (t : Bool) → All P (cond t (x ∷ y ∷ ys) (y ∷ insert_by key x ys))
      by_test rest true = All-cons P x (y ∷ ys) p all
      by_test rest false = All-cons P y (insert_by key x ys) (All-head P y ys all) rest

  pub ascending_all : (P : X → Type 0) (key : X → ℕ) (xs : List X) → All P xs → All P (ascending key xs)
  ascending_all P key [] all = all
  ascending_all P key (x ∷ xs) all = insert_all P key x (ascending key xs) (All-head P x xs all) (ascending_all P key xs (All-tail P x xs all))

  insert_rises : (key : X → ℕ) (x : X) (ys : List X) → IsNonDecreasingBy key ys → IsNonDecreasingBy key (insert_by key x ys)
  insert_rises key x [] up = rises_cons key x [] (All-nil (λ y. key x ≤ key y)) up
  insert_rises key x (y ∷ ys) up = by_test (insert_rises key x ys (rises_tail key y ys up)) (nat_le (key x) (key y)) refl
    where
      by_test : IsNonDecreasingBy key (insert_by key x ys) → (t : Bool) → nat_le (key x) (key y) ≡ t → IsNonDecreasingBy key (cond t (x ∷ y ∷ ys) (y ∷ insert_by key x ys))
      by_test rest true is =
          let le : key x ≤ key y = grind (arith, nat_tests) in
          rises_cons key x (y ∷ ys) (All-cons (λ z. key x ≤ key z) y ys le (All-weaker (λ z. key y ≤ key z) (λ z. key x ≤ key z) (λ z h. omega arith) ys (rises_head key y ys up))) up
      by_test rest false is =
          let le : key y ≤ key x = grind (arith, nat_tests) in
          rises_cons key y (insert_by key x ys) (insert_all (λ z. key y ≤ key z) key x ys le (rises_head key y ys up)) rest

  pub ascending_rises : (key : X → ℕ) (xs : List X) → IsNonDecreasingBy key (ascending key xs)
  ascending_rises key [] = λ i j d le high. absurd (omega arith)
  ascending_rises key (x ∷ xs) = insert_rises key x (ascending key xs) (ascending_rises key xs)

  passed_over : (x y : X) (xs : List X) (s t : Bool) → (s ≡ true → t ≡ true → ⊥) → cond t (y ∷ cond s (x ∷ xs) xs) (cond s (x ∷ xs) xs) ≡ cond s (x ∷ cond t (y ∷ xs) xs) (cond t (y ∷ xs) xs)
  passed_over x y xs true true apart = absurd (apart refl refl)
  passed_over x y xs true false apart = refl
  passed_over x y xs false true apart = refl
  passed_over x y xs false false apart = refl

  insert_keeps : (key : X → ℕ) (z x : X) (ys : List X) → filter (same_key key z) (insert_by key x ys) ≡ filter (same_key key z) (x ∷ ys)
  insert_keeps key z x [] = refl
  insert_keeps key z x (y ∷ ys) = by_test (insert_keeps key z x ys) (nat_le (key x) (key y)) refl
    where
      by_test : filter (same_key key z) (insert_by key x ys) ≡ filter (same_key key z) (x ∷ ys) → (t : Bool) → nat_le (key x) (key y) ≡ t → filter (same_key key z) (cond t (x ∷ y ∷ ys) (y ∷ insert_by key x ys)) ≡ filter (same_key key z) (x ∷ y ∷ ys)
      by_test rest true is = refl
      by_test rest false is =
          ap (λ w. cond (same_key key z y) (y ∷ w) w) rest
          ∙ passed_over x y (filter (same_key key z) ys) (same_key key z x) (same_key key z y) (λ e f. grind (arith, nat_tests))

  pub ascending_keeps : (key : X → ℕ) (xs : List X) (z : X) → filter (same_key key z) (ascending key xs) ≡ filter (same_key key z) xs
  ascending_keeps key [] z = refl
  ascending_keeps key (x ∷ xs) z = insert_keeps key z x (ascending key xs) ∙ ap (λ w. cond (same_key key z x) (x ∷ w) w) (ascending_keeps key xs z)

  own_key : (key : X → ℕ) (x : X) → same_key key x x ≡ true
  own_key key x = grind (arith, nat_tests)

  -- nothing of a lower key
  none_of : (key : X → ℕ) (z : X) (xs : List X) → All (λ y. key z < key y) xs → filter (same_key key z) xs ≡ []
  none_of key z [] above = refl
  none_of key z (x ∷ xs) above =
      let here : key z < key x = All-head (λ y. key z < key y) x xs above in
      let other : same_key key z x ≡ false = grind (arith, nat_tests) in
      ap (λ t. cond t (x ∷ filter (same_key key z) xs) (filter (same_key key z) xs)) other ∙ none_of key z xs (All-tail (λ y. key z < key y) x xs above)

  -- the front of one list isn't below that of another with the same elements of each key
  front_least : (key : X → ℕ) (x y : X) (xs ys : List X) → IsNonDecreasingBy key (y ∷ ys) → filter (same_key key x) (x ∷ xs) ≡ filter (same_key key x) (y ∷ ys) → key y ≤ key x
  front_least key x y xs ys up same = by_test (nat_le (key y) (key x)) refl
    where
      by_test : (t : Bool) → nat_le (key y) (key x) ≡ t → key y ≤ key x
      by_test true is = grind (arith, nat_tests)
      by_test false is =
          let below : key x < key y = grind (arith, nat_tests) in
          let none : filter (same_key key x) (y ∷ ys) ≡ [] = none_of key x (y ∷ ys) (All-cons (λ z. key x < key z) y ys below (All-weaker (λ z. key y ≤ key z) (λ z. key x < key z) (λ z h. omega arith) ys (rises_head key y ys up))) in
          let some : filter (same_key key x) (x ∷ xs) ≡ x ∷ filter (same_key key x) xs = ap (λ t. cond t (x ∷ filter (same_key key x) xs) (filter (same_key key x) xs)) (own_key key x) in
          absurd (cc (none, some, same))

  tail_same : (x y : X) (xs ys : List X) (s t : Bool) → x ≡ y → s ≡ t → cond s (x ∷ xs) xs ≡ cond t (y ∷ ys) ys → xs ≡ ys
  tail_same x y xs ys true true e f g = cc
  tail_same x y xs ys false false e f g = g
  tail_same x y xs ys true false e f g = absurd (cc)
  tail_same x y xs ys false true e f g = absurd (cc)

  -- two lists in ascending keys with the same elements of each key are one
  pub one_order : (key : X → ℕ) (xs ys : List X) → IsNonDecreasingBy key xs → IsNonDecreasingBy key ys → ((z : X) → filter (same_key key z) xs ≡ filter (same_key key z) ys) → xs ≡ ys
  one_order key [] [] up rise same = refl
  one_order key [] (y ∷ ys) up rise same =
      let some : filter (same_key key y) (y ∷ ys) ≡ y ∷ filter (same_key key y) ys = ap (λ t. cond t (y ∷ filter (same_key key y) ys) (filter (same_key key y) ys)) (own_key key y) in
      absurd (cc (some, same y))
  one_order key (x ∷ xs) [] up rise same =
      let some : filter (same_key key x) (x ∷ xs) ≡ x ∷ filter (same_key key x) xs = ap (λ t. cond t (x ∷ filter (same_key key x) xs) (filter (same_key key x) xs)) (own_key key x) in
      absurd (cc (some, same x))
  one_order key (x ∷ xs) (y ∷ ys) up rise same =
      let low : key y ≤ key x = front_least key x y xs ys rise (same x) in
      let high : key x ≤ key y = front_least key y x ys xs up (sym (same y)) in
      let alike : same_key key x y ≡ true = grind (arith, nat_tests) in
      let left : filter (same_key key x) (x ∷ xs) ≡ x ∷ filter (same_key key x) xs = ap (λ t. cond t (x ∷ filter (same_key key x) xs) (filter (same_key key x) xs)) (own_key key x) in
      let right : filter (same_key key x) (y ∷ ys) ≡ y ∷ filter (same_key key x) ys = ap (λ t. cond t (y ∷ filter (same_key key x) ys) (filter (same_key key x) ys)) alike in
      let front : x ≡ y = cc (left, right, same x) in
      let rest : xs ≡ ys = one_order key xs ys (rises_tail key x xs up) (rises_tail key y ys rise) (λ z. tail_same x y (filter (same_key key z) xs) (filter (same_key key z) ys) (same_key key z x) (same_key key z y) front (ap (same_key key z) front) (same z)) in
      cc (front, rest)

  -- so a sort puts in order
  pub sorts : (key : X → ℕ) (xs ys : List X) → IsSortedByKey key nat_cmp ys → IsStableByKey key nat_cmp xs ys → ys ≡ ascending key xs
  sorts key xs ys sorted stable =
      one_order key ys (ascending key xs) (IsNonDecreasingBy-from_sort key ys sorted) (ascending_rises key xs)
      (λ z. kept_from key xs ys stable z ∙ sym (ascending_keeps key xs z))

module _ {X Y : Type 0} where
  insert_map : (f : X → Y) (key : Y → ℕ) (x : X) (ys : List X) → insert_by key (f x) (map f ys) ≡ map f (insert_by (λ y. key (f y)) x ys)
  insert_map f key x [] = refl
  insert_map f key x (y ∷ ys) = by_test (insert_map f key x ys) (nat_le (key (f x)) (key (f y)))
    where
      by_test : insert_by key (f x) (map f ys) ≡ map f (insert_by (λ y. key (f y)) x ys) → (t : Bool) → cond t (f x ∷ f y ∷ map f ys) (f y ∷ insert_by key (f x) (map f ys)) ≡ map f (cond t (x ∷ y ∷ ys) (y ∷ insert_by (λ w. key (f w)) x ys))
      by_test rest true = refl
      by_test rest false = ap (λ w. f y ∷ w) rest

  pub ascending_map : (f : X → Y) (key : Y → ℕ) (xs : List X) → ascending key (map f xs) ≡ map f (ascending (λ x. key (f x)) xs)
  ascending_map f key [] = refl
  ascending_map f key (x ∷ xs) = ap (insert_by key (f x)) (ascending_map f key xs) ∙ insert_map f key x (ascending (λ y. key (f y)) xs)

module _ {X Y : Type 0} where
  -- a loop's step over what passes a test
  pub mapped_more : (f : X → Y) (p : X → Bool) (xs : List X) (i : ℕ) (x : X) → i < length xs → x ≡ get_or xs i x → map f (filter p (take (i + 1) xs)) ≡ map f (filter p (take i xs)) ++ cond (p x) (f x ∷ []) []
  mapped_more f p xs i x within is =
      ap (map f) (filter_more p xs i x within)
      ∙ ap (λ y. map f (filter p (take i xs) ++ cond (p y) (y ∷ []) [])) (sym is)
      ∙ by_test (p x)
    where
      by_test : (t : Bool) → map f (filter p (take i xs) ++ cond t (x ∷ []) []) ≡ map f (filter p (take i xs)) ++ cond t (f x ∷ []) []
      by_test true = map-append f (filter p (take i xs)) (x ∷ [])
      by_test false = map-append f (filter p (take i xs)) []
