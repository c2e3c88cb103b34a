-- The items between the commas of a text, read one by one.
use Rattle.std.proofs.Common.{◌≡◌, ◌≢◌, ℕ, ◌+◌, false, nat_eq, List, [], ◌∷◌, ◌++◌, length, drop, refl, ap, sym, ◌∙◌, arith}
use Rattle.std.specs.List.{join_with_byte, onto_first}
use Rattle.std.proofs.lemmas.List.Splits.{join_with_byte-slice_split, length-slice_split}
use Rattle.svcb_values.specs.ValueReading.{items_of}

-- no comma stands in the item
abbrev pub NoComma : List ℕ → Type 0
NoComma [] = Unit {0}
NoComma (b ∷ bs) = (nat_eq b 44 ≡ false) × NoComma bs

abbrev pub NoCommas : List (List ℕ) → Type 0
NoCommas [] = Unit {0}
NoCommas (item ∷ items) = NoComma item × NoCommas items

one_item : (item : List ℕ) → NoComma item → items_of item ≡ item ∷ []
one_item [] h = refl
one_item (b ∷ bs) h = rw h.0 (ap (onto_first b) (one_item bs h.1))

first_item : (item rest : List ℕ) → NoComma item → items_of (item ++ 44 ∷ rest) ≡ item ∷ items_of rest
first_item [] rest h = refl
first_item (b ∷ bs) rest h = rw h.0 (ap (onto_first b) (first_item bs rest h.1))

pub items_joined : (items : List (List ℕ)) → items ≢ [] → NoCommas items → items_of (join_with_byte 44 items) ≡ items
items_joined [] some h = absurd (some refl)
items_joined (item ∷ []) some h = one_item item h.0
items_joined (item ∷ next ∷ items) some h =
    first_item item (join_with_byte 44 (next ∷ items)) h.0 ∙ ap (λ xs. item ∷ xs) (items_joined (next ∷ items) (λ e. cc) h.1)

pub items_whole : (text : List ℕ) → text ≡ join_with_byte 44 (items_of text)
items_whole text = sym (join_with_byte-slice_split 44 text)

pub items_some : (text : List ℕ) → items_of text ≢ []
items_some text none = omega (arith, length-slice_split (λ b. nat_eq b 44) text, ap length none)

-- of the items of a text this one is next, behind so many
abbrev pub IsNext : List ℕ → List ℕ → ℕ → Type 0
IsNext text item count = drop count (items_of text) ≡ item ∷ drop (count + 1) (items_of text)
