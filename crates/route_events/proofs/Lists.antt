-- Membership in lists, and lists whose items have numbers of their own.
use Rattle.std.proofs.Common.{◌≡◌, ◌⊎◌, inl, inr, ℕ, ◌<◌, suc, zero, Bool, true, false, cond, ◌||◌, nat_eq, List, [], ◌∷◌, ◌++◌, length, slice_index_or, Some, is_some, filter, find, All, Any, ◌&&◌, refl, ap, sym, ◌∙◌, subst, arith, true≢false}
use Rattle.std.specs.List.{list_any}
use Rattle.alt_base.proofs.Booleans.{contradicts}
use Rattle.alt_base.proofs.Numbers.{eq_self}
use Rattle.route_events.specs.Dispatch.{first_of}

abbrev pub IsIn : {X : Type 0} → X → List X → Type 0
IsIn x [] = ⊥
IsIn x (y ∷ ys) = (x ≡ y) ⊎ IsIn x ys

pub nat_eq-flip : (a b : ℕ) → nat_eq a b ≡ nat_eq b a
nat_eq-flip a b = grind arith

pub nat_eq-below : (a b : ℕ) → a < b → nat_eq a b ≡ false
nat_eq-below a b e = grind arith

-- items of a list that pass a test
pub in_filter : {X : Type 0} (p : X → Bool) (x : X) (xs : List X) → IsIn x (filter p xs) → IsIn x xs × (p x ≡ true)
in_filter p x [] h = absurd h
in_filter {X} p x (y ∷ ys) h = by_test (p y) refl (in_filter p x ys) h
  where
    by_test : (b : Bool) → p y ≡ b → (IsIn x (filter p ys) → IsIn x ys × (p x ≡ true)) → IsIn x (cond b (y ∷ filter p ys) (filter p ys)) → IsIn x (y ∷ ys) × (p x ≡ true)
    by_test true e rest (inl same) = (inl same, subst (λ z. p z ≡ true) (sym same) e)
    by_test true e rest (inr later) = (inr (rest later).0, (rest later).1)
    by_test false e rest later = (inr (rest later).0, (rest later).1)

pub filter_in : {X : Type 0} (p : X → Bool) (x : X) (xs : List X) → IsIn x xs → p x ≡ true → IsIn x (filter p xs)
filter_in p x [] h e = absurd h
filter_in {X} p x (y ∷ ys) (inl same) e = rw (subst (λ z. p z ≡ true) same e) (inl same)
filter_in {X} p x (y ∷ ys) (inr later) e = by_test (p y) (filter_in p x ys later e)
  where
    by_test : (b : Bool) → IsIn x (filter p ys) → IsIn x (cond b (y ∷ filter p ys) (filter p ys))
    by_test true rest = inr rest
    by_test false rest = rest

pub in_append_one : {X : Type 0} (x y : X) (xs : List X) → IsIn x (xs ++ y ∷ []) → IsIn x xs ⊎ (x ≡ y)
in_append_one x y [] (inl same) = inr same
in_append_one x y [] (inr none) = absurd none
in_append_one x y (z ∷ zs) (inl same) = inl (inl same)
in_append_one {X} x y (z ∷ zs) (inr later) = further (in_append_one x y zs later)
  where
    further : IsIn x zs ⊎ (x ≡ y) → IsIn x (z ∷ zs) ⊎ (x ≡ y)
    further (inl h) = inl (inr h)
    further (inr e) = inr e

pub filter_same : {X : Type 0} (p q : X → Bool) (xs : List X) → ((x : X) → p x ≡ q x) → filter p xs ≡ filter q xs
filter_same p q [] h = refl
filter_same p q (x ∷ xs) h = rw (h x, filter_same p q xs h) refl

-- where nothing passes, nothing passes a harder test
pub filter_fewer : {X : Type 0} (p q : X → Bool) (xs : List X) → ((x : X) → q x ≡ true → p x ≡ true) → filter p xs ≡ [] → filter q xs ≡ []
filter_fewer p q [] h e = refl
filter_fewer {X} p q (x ∷ xs) h e = by_tests (q x) (p x) refl refl (filter_fewer p q xs h) e
  where
    by_tests : (b c : Bool) → q x ≡ b → p x ≡ c → (filter p xs ≡ [] → filter q xs ≡ []) → cond c (x ∷ filter p xs) (filter p xs) ≡ [] → cond b (x ∷ filter q xs) (filter q xs) ≡ []
    by_tests true true qx px rest none = cc
    by_tests true false qx px rest none = contradicts (p x) (h x qx) px
    by_tests false true qx px rest none = cc
    by_tests false false qx px rest none = rest none

pub list_any_more : {X : Type 0} (p q : X → Bool) (xs : List X) → ((x : X) → p x ≡ true → q x ≡ true) → list_any p xs ≡ true → list_any q xs ≡ true
list_any_more p q [] h e = e
list_any_more {X} p q (x ∷ xs) h e = by_tests (p x) (q x) refl refl (list_any_more p q xs h) e
  where
    by_tests : (b c : Bool) → p x ≡ b → q x ≡ c → (list_any p xs ≡ true → list_any q xs ≡ true) → (b || list_any p xs) ≡ true → (c || list_any q xs) ≡ true
    by_tests b true px qx rest some = refl
    by_tests true false px qx rest some = contradicts (q x) (h x px) qx
    by_tests false false px qx rest some = rest some

-- all items pass where the list isn't empty
pub list_any_all : {X : Type 0} (p : X → Bool) (x : X) (xs : List X) → ((y : X) → IsIn y (x ∷ xs) → p y ≡ true) → list_any p (x ∷ xs) ≡ true
list_any_all p x xs h = rw (h x (inl refl)) refl

pub none_left : {X : Type 0} (p : X → Bool) (xs : List X) → filter p xs ≡ [] → (x : X) → IsIn x xs → p x ≡ false
none_left {X} p xs none x h = by_test (p x) refl
  where
    by_test : (b : Bool) → p x ≡ b → b ≡ false
    by_test false e = refl
    by_test true e = absurd (subst (IsIn x) none (filter_in p x xs h e))

-- no two items have one number
abbrev pub AreApart : {X : Type 0} → (X → ℕ) → List X → Type 0
AreApart f [] = Unit {0}
AreApart {X} f (x ∷ xs) = ((y : X) → IsIn y xs → nat_eq (f x) (f y) ≡ false) × AreApart f xs

pub apart_filter : {X : Type 0} (f : X → ℕ) (p : X → Bool) (xs : List X) → AreApart f xs → AreApart f (filter p xs)
apart_filter f p [] h = tt
apart_filter {X} f p (x ∷ xs) h = by_test (p x) (apart_filter f p xs h.1)
  where
    by_test : (b : Bool) → AreApart f (filter p xs) → AreApart f (cond b (x ∷ filter p xs) (filter p xs))
    by_test true rest = (λ y found. h.0 y (in_filter p y xs found).0, rest)
    by_test false rest = rest

pub apart_append_one : {X : Type 0} (f : X → ℕ) (xs : List X) (x : X) → AreApart f xs → ((y : X) → IsIn y xs → nat_eq (f y) (f x) ≡ false) → AreApart f (xs ++ x ∷ [])
apart_append_one f [] x h other = (λ y none. absurd none, tt)
apart_append_one {X} f (z ∷ zs) x h other = (λ y found. by_place y (in_append_one y x zs found), apart_append_one f zs x h.1 (λ y found. other y (inr found)))
  where
    by_place : (y : X) → IsIn y zs ⊎ (y ≡ x) → nat_eq (f z) (f y) ≡ false
    by_place y (inl found) = h.0 y found
    by_place y (inr same) = subst (λ w. nat_eq (f z) (f w) ≡ false) (sym same) (other z (inl refl))

-- the item is found by its number
pub find_apart : {X : Type 0} (f : X → ℕ) (xs : List X) (x : X) → AreApart f xs → IsIn x xs → find (λ y. nat_eq (f y) (f x)) xs ≡ Some x
find_apart f [] x h none = absurd none
find_apart {X} f (y ∷ ys) x h (inl same) = subst (λ z. cond (nat_eq (f z) (f x)) (Some z) (find (λ y. nat_eq (f y) (f x)) ys) ≡ Some x) same (rw (eq_self (f x)) refl)
find_apart {X} f (y ∷ ys) x h (inr later) = rw (h.0 x later) (find_apart f ys x h.1 later)

pub all_from_in : {X : Type 0} (P : X → Type 0) (xs : List X) → ((x : X) → IsIn x xs → P x) → All P xs
all_from_in P [] h k d within = absurd (omega arith)
all_from_in P (x ∷ xs) h zero d within = h x (inl refl)
all_from_in P (x ∷ xs) h (suc k) d within = all_from_in P xs (λ y found. h y (inr found)) k d (omega arith)

pub filter_same_in : {X : Type 0} (p q : X → Bool) (xs : List X) → ((x : X) → IsIn x xs → p x ≡ q x) → filter p xs ≡ filter q xs
filter_same_in p q [] h = refl
filter_same_in p q (x ∷ xs) h = rw (h x (inl refl), filter_same_in p q xs (λ y found. h y (inr found))) refl

-- an item that is found passes the test
pub find_in : {X : Type 0} (p : X → Bool) (xs : List X) (x : X) → find p xs ≡ Some x → IsIn x xs × (p x ≡ true)
find_in p [] x e = absurd (true≢false (sym (ap is_some e)))
find_in {X} p (y ∷ ys) x e = by_test (p y) refl (find_in p ys x) e
  where
    by_test : (b : Bool) → p y ≡ b → (find p ys ≡ Some x → IsIn x ys × (p x ≡ true)) → cond b (Some y) (find p ys) ≡ Some x → IsIn x (y ∷ ys) × (p x ≡ true)
    by_test true py rest e = let same : y ≡ x = cc in (inl (sym same), subst (λ z. p z ≡ true) same py)
    by_test false py rest e = (inr (rest e).0, (rest e).1)

-- where a test holds of some item, an item has it
pub some_in : {X : Type 0} (p : X → Bool) (xs : List X) → list_any p xs ≡ true → (x : X) × IsIn x xs × (p x ≡ true)
some_in p [] e = absurd (true≢false (sym e))
some_in {X} p (y ∷ ys) e = by_test (p y) refl (some_in p ys) e
  where
    by_test : (b : Bool) → p y ≡ b → (list_any p ys ≡ true → (x : X) × IsIn x ys × (p x ≡ true)) → (b || list_any p ys) ≡ true → (x : X) × IsIn x (y ∷ ys) × (p x ≡ true)
    by_test true py rest e = (y, inl refl, py)
    by_test false py rest e = let found = rest e in (found.0, inr found.1, found.2)

pub any_from_in : {X : Type 0} (P : X → Type 0) (x : X) (xs : List X) → IsIn x xs → P x → Any P xs
any_from_in P x [] h p = absurd h
any_from_in P x (y ∷ ys) (inl same) p = (zero, x, omega arith, sym same, p)
any_from_in P x (y ∷ ys) (inr later) p = let found = any_from_in P x ys later p in (suc found.0, found.1, omega (arith, found.2), found.3, found.4)

pub in_from_any : {X : Type 0} (x : X) (xs : List X) → Any (λ y. y ≡ x) xs → IsIn x xs
in_from_any {X} x xs found = at_place xs found.0 found.1 found.2 found.3 found.4
  where
    at_place : (ys : List X) (k : ℕ) (y : X) → k < length ys → slice_index_or ys k y ≡ y → y ≡ x → IsIn x ys
    at_place [] k y within here same = absurd (omega arith)
    at_place (z ∷ zs) zero y within here same = inl (sym (here ∙ same))
    at_place (z ∷ zs) (suc k) y within here same = inr (at_place zs k y (omega arith) here same)

pub in_append : {X : Type 0} (x y : X) (xs : List X) → IsIn x xs → IsIn x (xs ++ y ∷ [])
in_append x y [] h = absurd h
in_append x y (z ∷ zs) (inl same) = inl same
in_append x y (z ∷ zs) (inr later) = inr (in_append x y zs later)

pub in_end : {X : Type 0} (x : X) (xs : List X) → IsIn x (xs ++ x ∷ [])
in_end x [] = inl refl
in_end x (z ∷ zs) = inr (in_end x zs)

-- a test of one more item at the end
pub filter_end : {X : Type 0} (p : X → Bool) (xs : List X) (x : X) → filter p (xs ++ x ∷ []) ≡ filter p xs ++ cond (p x) (x ∷ []) []
filter_end p [] x = by_test (p x)
  where
    by_test : (b : Bool) → cond b (x ∷ []) [] ≡ cond b (x ∷ []) []
    by_test b = refl
filter_end {X} p (y ∷ ys) x = by_test (p y) (filter_end p ys x)
  where
    by_test : (b : Bool) → filter p (ys ++ x ∷ []) ≡ filter p ys ++ cond (p x) (x ∷ []) [] → cond b (y ∷ filter p (ys ++ x ∷ [])) (filter p (ys ++ x ∷ [])) ≡ cond b (y ∷ filter p ys) (filter p ys) ++ cond (p x) (x ∷ []) []
    by_test true rest = ap (λ zs. y ∷ zs) rest
    by_test false rest = rest

-- two tests in a row are their conjunction
pub filter_twice : {X : Type 0} (p q : X → Bool) (xs : List X) → filter p (filter q xs) ≡ filter (λ x. q x && p x) xs
filter_twice p q [] = refl
filter_twice {X} p q (x ∷ xs) = by_test (q x) (filter_twice p q xs)
  where
    by_test : (b : Bool) → filter p (filter q xs) ≡ filter (λ x. q x && p x) xs → filter p (cond b (x ∷ filter q xs) (filter q xs)) ≡ cond (b && p x) (x ∷ filter (λ x. q x && p x) xs) (filter (λ x. q x && p x) xs)
    by_test true rest = ap (λ zs. cond (p x) (x ∷ zs) zs) rest
    by_test false rest = rest

-- two tests pass in either order
pub filter_swap : {X : Type 0} (p q : X → Bool) (xs : List X) → filter p (filter q xs) ≡ filter q (filter p xs)
filter_swap p q xs = filter_twice p q xs ∙ filter_same (λ x. q x && p x) (λ x. p x && q x) xs (λ x. either_order (q x) (p x)) ∙ sym (filter_twice q p xs)
  where
    either_order : (a b : Bool) → (a && b) ≡ (b && a)
    either_order true true = refl
    either_order true false = refl
    either_order false true = refl
    either_order false false = refl

-- what is found is the first that passes
pub first_found : {X : Type 0} (t : X → Bool) (xs : List X) → find t xs ≡ first_of (filter t xs)
first_found t [] = refl
first_found t (x ∷ xs) = by_test (t x) (first_found t xs)
  where
    by_test : (b : Bool) → find t xs ≡ first_of (filter t xs) → cond b (Some x) (find t xs) ≡ first_of (cond b (x ∷ filter t xs) (filter t xs))
    by_test true rest = refl
    by_test false rest = rest
