-- The keys of a mandatory list as a set of std's.
use Rattle.std.proofs.Common.{◌≡◌, ◌≢◌, ℕ, ◌+◌, Bool, true, false, cond, not, ◌||◌, nat_eq, nat_lt, List, [], ◌∷◌, drop, Option, Some, None, refl, ap, sym, ◌∙◌, arith}
use Rattle.std.specs.List.{list_any}
use Rattle.std.specs.Ordering.{nat_cmp, match_ordering, is_eq}
use Rattle.std.specs.declared.cmp.Ordering.TheVariants.{Less, Equal, Greater}
use Rattle.std.specs.BTreeMap.{is_at}
use Rattle.std.specs.BTreeSet.{insert_key}
use Rattle.std.proofs.lemmas.Bool.Decides.{nat_tests}
use Rattle.alt_base.proofs.Numbers.{eq_false}
use Rattle.svcb_values.specs.KeyNames.{key_named}
use Rattle.svcb_values.specs.Placing.{placed_key}
use Rattle.svcb_values.specs.ValueReading.{items_of, has_number, with_key, then_keys, keys_beside, read_keys}
use Rattle.svcb_values.proofs.CommaItems.{IsNext}
use Rattle.std.proofs.lemmas.Bool.{or_parts, or_right}

test_same : (a b : ℕ) → is_eq (nat_cmp a b) ≡ nat_eq b a
test_same a b = grind (arith, nat_tests)

pub set_has : (key : ℕ) (keys : List ℕ) → list_any (is_at (nat_cmp key)) keys ≡ has_number keys key
set_has key [] = refl
set_has key (first ∷ keys) = ap (λ t. t || list_any (is_at (nat_cmp key)) keys) (test_same key first) ∙ ap (λ t. nat_eq first key || t) (set_has key keys)

not_lower : (a b : ℕ) → nat_eq b a ≡ false → nat_eq a b ≡ false
not_lower a b h = grind (arith, nat_tests)

pub set_insert : (key : ℕ) (keys : List ℕ) → has_number keys key ≡ false → insert_key nat_cmp keys key ≡ placed_key key keys
set_insert key [] fresh = refl
set_insert key (first ∷ keys) fresh =
    let apart = or_parts (nat_eq first key) (has_number keys key) fresh in
    go (set_insert key keys apart.1) (nat_lt key first) (nat_eq key first) (not_lower key first apart.0)
  where
    go : insert_key nat_cmp keys key ≡ placed_key key keys → (s t : Bool) → t ≡ false → match_ordering (cond s Less (cond t Equal Greater)) (key ∷ first ∷ keys) (first ∷ keys) (first ∷ insert_key nat_cmp keys key) ≡ cond s (key ∷ first ∷ keys) (first ∷ placed_key key keys)
    go rest true t h = refl
    go rest false true h = cc
    go rest false false h = ap (λ xs. first ∷ xs) rest

-- the loop over the names: what is left is read beside the keys so far
abbrev pub IsSoFar : List ℕ → List ℕ → ℕ → Type 0
IsSoFar text keys count = keys_beside (drop count (items_of text)) keys ≡ read_keys text

pub no_key : (text item keys : List ℕ) (count : ℕ) → IsSoFar text keys count → IsNext text item count → key_named item ≡ None → None ≡ read_keys text
no_key text item keys count h next none =
    sym (ap (λ o. then_keys (with_key keys o) (keys_beside (drop (count + 1) (items_of text)))) none) ∙ sym (ap (λ xs. keys_beside xs keys) next) ∙ h

-- with a key that the name names
this_key : (text item keys : List ℕ) (count key : ℕ) → IsSoFar text keys count → IsNext text item count → key_named item ≡ Some key
    → then_keys (with_key keys (Some key)) (keys_beside (drop (count + 1) (items_of text))) ≡ read_keys text
this_key text item keys count key h next some =
    sym (ap (λ o. then_keys (with_key keys o) (keys_beside (drop (count + 1) (items_of text)))) some) ∙ sym (ap (λ xs. keys_beside xs keys) next) ∙ h

by_tests : (s t : Bool) (keys new : List ℕ) (rest : List (List ℕ)) (all : Option (List ℕ)) → then_keys (cond (s || t) None (Some new)) (keys_beside rest) ≡ all → s ≡ false → t ≡ false → keys_beside rest new ≡ all
by_tests false false keys new rest all h p q = h
by_tests false true keys new rest all h p q = cc
by_tests true t keys new rest all h p q = cc

none_by : (s t : Bool) (new : List ℕ) (rest : List (List ℕ)) (all : Option (List ℕ)) → then_keys (cond (s || t) None (Some new)) (keys_beside rest) ≡ all → (s || t) ≡ true → None ≡ all
none_by false false new rest all h p = cc
none_by false true new rest all h p = h
none_by true t new rest all h p = h

pub key_zero : (text item keys : List ℕ) (count key : ℕ) → IsSoFar text keys count → IsNext text item count → key_named item ≡ Some key → key ≡ 0 → None ≡ read_keys text
key_zero text item keys count key h next some is =
    none_by (nat_eq key 0) (has_number keys key) (placed_key key keys) (drop (count + 1) (items_of text)) (read_keys text) (this_key text item keys count key h next some) (ap (λ k. nat_eq k 0 || has_number keys key) is)

not_true : (a b : Bool) → a ≡ not b → a ≡ true → b ≡ false
not_true a true h k = cc
not_true a false h k = refl

not_false : (a b : Bool) → a ≡ not b → a ≡ false → b ≡ true
not_false a true h k = refl
not_false a false h k = cc

pub key_again : (text item keys : List ℕ) (count key : ℕ) (added : Bool) → IsSoFar text keys count → IsNext text item count → key_named item ≡ Some key
    → added ≡ not (list_any (is_at (nat_cmp key)) keys) → added ≡ false → None ≡ read_keys text
key_again text item keys count key added h next some is there =
    none_by (nat_eq key 0) (has_number keys key) (placed_key key keys) (drop (count + 1) (items_of text)) (read_keys text) (this_key text item keys count key h next some)
    (or_right (nat_eq key 0) (has_number keys key) (sym (set_has key keys) ∙ not_false added (list_any (is_at (nat_cmp key)) keys) is there))

pub key_on : (text item keys new : List ℕ) (count key : ℕ) (added : Bool) → IsSoFar text keys count → IsNext text item count → key_named item ≡ Some key → key ≢ 0
    → added ≡ not (list_any (is_at (nat_cmp key)) keys) → added ≡ true → new ≡ insert_key nat_cmp keys key → IsSoFar text new (count + 1)
key_on text item keys new count key added h next some other is fresh placed =
    let none : has_number keys key ≡ false = sym (set_has key keys) ∙ not_true added (list_any (is_at (nat_cmp key)) keys) is fresh in
    ap (keys_beside (drop (count + 1) (items_of text))) (placed ∙ set_insert key keys none)
    ∙ by_tests (nat_eq key 0) (has_number keys key) keys (placed_key key keys) (drop (count + 1) (items_of text)) (read_keys text) (this_key text item keys count key h next some) (eq_false key 0 other) none

pub key_end : (text keys : List ℕ) (count : ℕ) → IsSoFar text keys count → drop count (items_of text) ≡ [] → Some keys ≡ read_keys text
key_end text keys count h none = sym (ap (λ xs. keys_beside xs keys) none) ∙ h
