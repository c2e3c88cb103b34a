-- The items of a list in rising keys: there is one such list at most, and the reading gives it.
use Rattle.std.proofs.Common.{◌≡◌, ◌≢◌, ℕ, zero, suc, ◌<◌, ◌≤◌, ◌⊎◌, inl, inr, Bool, true, false, cond, nat_eq, nat_lt, List, [], ◌∷◌, ◌++◌, length, map, get_or, refl, ap, sym, ◌∙◌, arith, add-one}
use Rattle.std.specs.List.{Contains, list_any}
use Rattle.std.specs.List.Sorted.{IsPermutation, IsStrictlyIncreasing}
use Rattle.std.proofs.lemmas.Bool.{or_parts}
use Rattle.std.proofs.lemmas.List.{append-nil}
use Rattle.std.proofs.lemmas.List.Sorted.{IsPermutation-refl, IsPermutation-sym, IsPermutation-trans, IsPermutation-cons, IsPermutation-middle, IsPermutation-append_left, Contains-permutation}
use Rattle.alt_base.proofs.Numbers.{false_eq, true_lt, false_lt}
use Rattle.svcb_values.specs.KeyOrder.{IsOrderOf}
use Rattle.svcb_values.specs.Placing.{placed_by}

-- each number above the one before it, and none below a least one
abbrev pub RiseFrom : ℕ → List ℕ → Type 0
RiseFrom least [] = Unit {0}
RiseFrom least (key ∷ keys) = (least ≤ key) × RiseFrom (suc key) keys

abbrev Steps : List ℕ → Type 0
Steps keys = (k : ℕ) → suc k < length keys → get_or keys k 0 < get_or keys (suc k) 0

rise_steps : (keys : List ℕ) (least : ℕ) → RiseFrom least keys → Steps keys
rise_steps [] least r k h = absurd (omega arith)
rise_steps (a ∷ []) least r k h = absurd (omega arith)
rise_steps (a ∷ b ∷ keys) least r zero h = omega (arith, r.1.0)
rise_steps (a ∷ b ∷ keys) least r (suc k) h = rise_steps (b ∷ keys) (suc a) r.1 k (omega arith)

steps_rise : (a : ℕ) (keys : List ℕ) → Steps (a ∷ keys) → RiseFrom (suc a) keys
steps_rise a [] s = tt
steps_rise a (b ∷ keys) s = let first : a < b = s zero (omega arith) in (omega arith, steps_rise b keys (λ k h. s (suc k) (omega arith)))

pub rise_increases : (keys : List ℕ) (least : ℕ) → RiseFrom least keys → IsStrictlyIncreasing keys
rise_increases keys least r k h = rw add-one (rise_steps keys least r k (omega arith))

increases_rise : (keys : List ℕ) → IsStrictlyIncreasing keys → RiseFrom 0 keys
increases_rise [] h = tt
increases_rise (a ∷ keys) h = (omega arith, steps_rise a keys (λ k i. rw add-one at (h k (omega arith))))

abbrev IsIn : {A : Type 0} → A → List A → Type 0
IsIn x [] = ⊥
IsIn x (y ∷ ys) = (x ≡ y) ⊎ IsIn x ys

in_by : {A : Type 0} (xs : List A) (x : A) (k : ℕ) → k < length xs → get_or xs k x ≡ x → IsIn x xs
in_by [] x k h is = absurd (omega arith)
in_by (y ∷ ys) x zero h is = inl (sym is)
in_by (y ∷ ys) x (suc k) h is = inr (in_by ys x k (omega arith) is)

contains_in : {A : Type 0} (xs : List A) (x : A) → IsIn x xs → Contains xs x
contains_in [] x h = absurd h
contains_in (y ∷ ys) x (inl is) = (0, omega arith, sym is)
contains_in (y ∷ ys) x (inr h) = let c = contains_in ys x h in (suc c.0, omega (arith, c.1), c.2)

in_permuted : {A : Type 0} (xs ys : List A) → IsPermutation xs ys → (x : A) → IsIn x xs → IsIn x ys
in_permuted xs ys p x h = let c = Contains-permutation xs ys x p (contains_in xs x h) in in_by ys x c.0 c.1 c.2

in_above : {A : Type 0} (key : A → ℕ) (xs : List A) (least : ℕ) (x : A) → RiseFrom least (map key xs) → IsIn x xs → least ≤ key x
in_above key [] least x r h = absurd h
in_above key (y ∷ ys) least x r (inl is) = omega (arith, r.0, ap key is)
in_above key (y ∷ ys) least x r (inr h) = omega (arith, r.0, in_above key ys (suc (key y)) x r.1 h)

abbrev AllIn : {A : Type 0} → List A → List A → Type 0
AllIn {A} xs ys = (x : A) → IsIn x xs → IsIn x ys

first_same : {A : Type 0} (key : A → ℕ) (x y : A) (xs ys : List A) → RiseFrom (suc (key x)) (map key xs) → RiseFrom (suc (key y)) (map key ys) → IsIn x (y ∷ ys) → IsIn y (x ∷ xs) → x ≡ y
first_same key x y xs ys r s (inl is) back = is
first_same key x y xs ys r s (inr h) (inl is) = sym is
first_same key x y xs ys r s (inr h) (inr i) = absurd (omega (arith, in_above key ys (suc (key y)) x s h, in_above key xs (suc (key x)) y r i))

rest_in : {A : Type 0} (key : A → ℕ) (x y z : A) (xs ys : List A) → RiseFrom (suc (key x)) (map key xs) → x ≡ y → IsIn z xs → IsIn z (y ∷ ys) → IsIn z ys
rest_in key x y z xs ys r same h (inl is) = absurd (omega (arith, in_above key xs (suc (key x)) z r h, ap key same, ap key is))
rest_in key x y z xs ys r same h (inr i) = i

-- lists of the same items whose keys rise are one
one_order : {A : Type 0} (key : A → ℕ) (xs ys : List A) (least least' : ℕ) → RiseFrom least (map key xs) → RiseFrom least' (map key ys) → AllIn xs ys → AllIn ys xs → xs ≡ ys
one_order key [] [] least least' r s into back = refl
one_order key [] (y ∷ ys) least least' r s into back = absurd (back y (inl refl))
one_order key (x ∷ xs) [] least least' r s into back = absurd (into x (inl refl))
one_order key (x ∷ xs) (y ∷ ys) least least' r s into back =
    let same : x ≡ y = first_same key x y xs ys r.1 s.1 (into x (inl refl)) (back y (inl refl)) in
    let rest : xs ≡ ys = one_order key xs ys (suc (key x)) (suc (key y)) r.1 s.1 (λ z h. rest_in key x y z xs ys r.1 same h (into z (inr h))) (λ z h. rest_in key y x z ys xs s.1 (sym same) h (back z (inr h))) in
    ap (λ z. z ∷ xs) same ∙ ap (λ zs. y ∷ zs) rest

pub only_order : {A : Type 0} (key : A → ℕ) (given ordered ordered' : List A) → IsOrderOf key given ordered → IsOrderOf key given ordered' → ordered ≡ ordered'
only_order key given ordered ordered' o o' =
    let across : IsPermutation ordered ordered' = IsPermutation-trans ordered given ordered' (IsPermutation-sym given ordered o.same) o'.same in
    one_order key ordered ordered' 0 0 (increases_rise (map key ordered) o.rising) (increases_rise (map key ordered') o'.rising)
    (in_permuted ordered ordered' across) (in_permuted ordered' ordered (IsPermutation-sym ordered ordered' across))

-- items placed in turn among others
abbrev pub all_placed_by : {A : Type 0} → (A → ℕ) → List A → List A → List A
all_placed_by key before [] = before
all_placed_by key before (item ∷ items) = all_placed_by key (placed_by key item before) items

placed_same : {A : Type 0} (key : A → ℕ) (item : A) (items : List A) → IsPermutation (item ∷ items) (placed_by key item items)
placed_same key item [] = IsPermutation-refl (item ∷ [])
placed_same key item (other ∷ items) = go (nat_lt (key item) (key other)) (placed_same key item items)
  where
    go : (t : Bool) → IsPermutation (item ∷ items) (placed_by key item items) → IsPermutation (item ∷ other ∷ items) (cond t (item ∷ other ∷ items) (other ∷ placed_by key item items))
    go true h = IsPermutation-refl (item ∷ other ∷ items)
    go false h = IsPermutation-trans (item ∷ other ∷ items) (other ∷ item ∷ items) (other ∷ placed_by key item items) (IsPermutation-middle (item ∷ []) other items) (IsPermutation-cons other (item ∷ items) (placed_by key item items) h)

pub all_same : {A : Type 0} (key : A → ℕ) (before items : List A) → IsPermutation (before ++ items) (all_placed_by key before items)
all_same key before [] = rw append-nil (IsPermutation-refl before)
all_same key before (item ∷ items) =
    IsPermutation-trans (before ++ item ∷ items) (item ∷ (before ++ items)) (all_placed_by key (placed_by key item before) items) (IsPermutation-middle before item items)
    (IsPermutation-trans (item ∷ (before ++ items)) (placed_by key item before ++ items) (all_placed_by key (placed_by key item before) items)
    (IsPermutation-append_left items (item ∷ before) (placed_by key item before) (placed_same key item before)) (all_same key (placed_by key item before) items))

-- an item of a new key keeps the keys rising
pub rise_placed : {A : Type 0} (key : A → ℕ) (least : ℕ) (item : A) (items : List A) → least ≤ key item → list_any (λ other. nat_eq (key other) (key item)) items ≡ false → RiseFrom least (map key items)
    → RiseFrom least (map key (placed_by key item items))
rise_placed key least item [] above fresh r = (above, tt)
rise_placed key least item (other ∷ items) above fresh r =
    let apart = or_parts (nat_eq (key other) (key item)) (list_any (λ o. nat_eq (key o) (key item)) items) fresh in
    go (nat_lt (key item) (key other)) refl (false_eq (key other) (key item) apart.0) (λ h. rise_placed key (suc (key other)) item items h apart.1 r.1)
  where
    go : (t : Bool) → nat_lt (key item) (key other) ≡ t → key other ≢ key item → (suc (key other) ≤ key item → RiseFrom (suc (key other)) (map key (placed_by key item items)))
        → RiseFrom least (map key (cond t (item ∷ other ∷ items) (other ∷ placed_by key item items)))
    go true is apart rest = (above, (omega (arith, true_lt (key item) (key other) is), r.1))
    go false is apart rest = (r.0, rest (omega (arith, false_lt (key item) (key other) is, apart)))

pub placed_order : {A : Type 0} (key : A → ℕ) (given : List A) (least : ℕ) → RiseFrom least (map key (all_placed_by key [] given)) → IsOrderOf key given (all_placed_by key [] given)
placed_order key given least r = record { same = all_same key [] given; rising = rise_increases (map key (all_placed_by key [] given)) least r }
