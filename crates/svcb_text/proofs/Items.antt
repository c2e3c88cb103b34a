-- Blanks and items: what a run ends before.
use Rattle.std.proofs.Common.{◌≡◌, ◌≢◌, ◌⊎◌, ℕ, Bool, true, false, ◌||◌, not, nat_eq, List, [], ◌∷◌, ◌++◌, refl, ap, ◌∙◌, subst, arith, inl, inr}
use Rattle.std.proofs.lemmas.Bool.Decides.{nat_tests}
use Rattle.field_text.specs.BlanksGrammar.{is_blank}
use Rattle.field_text.specs.Runs.{AllIn, BeginsIn, run_of, after_run}
use Rattle.field_text.proofs.RunLemmas.{longest_run, run_of-append, after_run-append}
use Rattle.svcb_values.specs.KeyNames.{is_key_byte}
use Rattle.svcb_values.specs.StringGrammar.{EndsItem}
use Rattle.svcb_text.specs.TextGrammar.{AreBlanks}
use Rattle.svcb_text.specs.TextReading.{ends_key, item_of, after_item}
use Rattle.svcb_text.specs.TextRefusals.{EndsKey, IsItem}
use Rattle.std.proofs.lemmas.Bool.{or_cases}
use Rattle.alt_base.proofs.Booleans.{contradicts}

abbrev pub no_blank : ℕ → Bool
no_blank b = not (is_blank b)

not_true : (t : Bool) → t ≡ true → not t ≡ true → ⊥
not_true true a b = cc
not_true false a b = cc

not_false : (t : Bool) → (not t ≡ true → ⊥) → t ≡ true
not_false true h = refl
not_false false h = absurd (h refl)

pub item_stops : (x : List ℕ) → EndsItem x → BeginsIn no_blank x → ⊥
item_stops [] e h = h
item_stops (b ∷ bs) e h = not_true (is_blank b) e h

stops_item : (x : List ℕ) → (BeginsIn no_blank x → ⊥) → EndsItem x
stops_item [] h = tt
stops_item (b ∷ bs) h = not_false (is_blank b) h

-- an item is the longest run
pub item_is : (x item rest : List ℕ) → x ≡ item ++ rest → AllIn no_blank item → EndsItem rest → item_of x ≡ item
item_is x item rest e all ends = ap (run_of no_blank) e ∙ run_of-append no_blank item rest all (item_stops rest ends)

pub rest_is : (x item rest : List ℕ) → x ≡ item ++ rest → AllIn no_blank item → EndsItem rest → after_item x ≡ rest
rest_is x item rest e all ends = ap (after_run no_blank) e ∙ after_run-append no_blank item rest all (item_stops rest ends)

pub first_item : (x : List ℕ) → IsItem x (item_of x) (after_item x)
first_item x =
    let s = longest_run no_blank x in
    record { text = s.text; no_blank = s.valid; ends = stops_item (after_item x) s.longest }

-- blanks stand between an item and what follows it
pub blanks_between : (x blanks rest : List ℕ) → EndsItem x → x ≡ blanks ++ rest → (BeginsIn is_blank rest → ⊥) → rest ≢ [] → blanks ≢ []
blanks_between x blanks [] ends e stops some none = absurd (some refl)
blanks_between x blanks (b ∷ rest) ends e stops some none =
    let same : x ≡ b ∷ rest = e ∙ ap (λ xs. xs ++ b ∷ rest) none in
    let P : List ℕ → Type 0 = EndsItem in
    stops (subst P same ends)

pub ends_with_blanks : (blanks rest : List ℕ) → AreBlanks blanks → EndsItem (blanks ++ rest)
ends_with_blanks [] rest h = absurd (h.some refl)
ends_with_blanks (b ∷ bs) rest h = h.all.0

pub blanks_end : (blanks : List ℕ) → AllIn is_blank blanks → EndsItem blanks
blanks_end [] all = tt
blanks_end (b ∷ bs) all = all.0

-- what may follow a key
true_or : (a b : Bool) → (a ≡ true) ⊎ (b ≡ true) → (a || b) ≡ true
true_or true b h = refl
true_or false b (inl h) = cc
true_or false b (inr h) = h

is_equals : (b : ℕ) → nat_eq b 61 ≡ true → b ≡ 61
is_equals b h = grind (arith, nat_tests)

equals_is : (b : ℕ) → b ≡ 61 → nat_eq b 61 ≡ true
equals_is b h = grind (arith, nat_tests)

ends_by : (b : ℕ) → (nat_eq b 61 ≡ true) ⊎ (is_blank b ≡ true) → (b ≡ 61) ⊎ (is_blank b ≡ true)
ends_by b (inl h) = inl (is_equals b h)
ends_by b (inr h) = inr h

by_ends : (b : ℕ) → (b ≡ 61) ⊎ (is_blank b ≡ true) → (nat_eq b 61 ≡ true) ⊎ (is_blank b ≡ true)
by_ends b (inl h) = inl (equals_is b h)
by_ends b (inr h) = inr h

pub key_ends : (x : List ℕ) → ends_key x ≡ true → EndsKey x
key_ends [] h = tt
key_ends (b ∷ bs) h = ends_by b (or_cases (nat_eq b 61) (is_blank b) h)

pub ends_read : (x : List ℕ) → EndsKey x → ends_key x ≡ true
ends_read [] h = refl
ends_read (b ∷ bs) h = true_or (nat_eq b 61) (is_blank b) (by_ends b h)

pub item_ends_key : (x : List ℕ) → EndsItem x → EndsKey x
item_ends_key [] h = tt
item_ends_key (b ∷ bs) h = inr h

-- a blank is no equals sign, and neither is a key's byte
pub blank_is : (b : ℕ) → is_blank b ≡ true → (b ≡ 32) ⊎ (b ≡ 9)
blank_is b h = by (or_cases (nat_eq b 32) (nat_eq b 9) h)
  where
    by : (nat_eq b 32 ≡ true) ⊎ (nat_eq b 9 ≡ true) → (b ≡ 32) ⊎ (b ≡ 9)
    by (inl e) = inl (grind (arith, nat_tests))
    by (inr e) = inr (grind (arith, nat_tests))

pub blank_no_equals : (b : ℕ) → is_blank b ≡ true → nat_eq b 61 ≡ false
blank_no_equals b h = by (blank_is b h)
  where
    by : (b ≡ 32) ⊎ (b ≡ 9) → nat_eq b 61 ≡ false
    by (inl e) = rw e refl
    by (inr e) = rw e refl

pub no_key_byte : (b : ℕ) → (b ≡ 61) ⊎ (is_blank b ≡ true) → is_key_byte b ≡ false
no_key_byte b (inl e) = rw e refl
no_key_byte b (inr h) = by (blank_is b h)
  where
    by : (b ≡ 32) ⊎ (b ≡ 9) → is_key_byte b ≡ false
    by (inl e) = rw e refl
    by (inr e) = rw e refl

pub key_stops : (x : List ℕ) → EndsKey x → BeginsIn is_key_byte x → ⊥
key_stops [] e h = h
key_stops (b ∷ bs) e h = contradicts (is_key_byte b) h (no_key_byte b e)

-- a key's bytes, up to what may follow a key
pub key_run : (x key more : List ℕ) → x ≡ key ++ more → AllIn is_key_byte key → EndsKey more → run_of is_key_byte x ≡ key
key_run x key more e all ends = ap (run_of is_key_byte) e ∙ run_of-append is_key_byte key more all (key_stops more ends)

pub key_rest : (x key more : List ℕ) → x ≡ key ++ more → AllIn is_key_byte key → EndsKey more → after_run is_key_byte x ≡ more
key_rest x key more e all ends = ap (after_run is_key_byte) e ∙ after_run-append is_key_byte key more all (key_stops more ends)
