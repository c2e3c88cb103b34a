-- Reading items one by one.
use Rattle.std.proofs.Common.{◌≡◌, ℕ, ◌+◌, ◌≤◌, List, [], ◌∷◌, ◌++◌, length, drop, None, Some, Ok, Err, append_assoc, append-nil, length-append, refl, ap, sym, ◌∙◌, arith}
use Rattle.coalescing.specs.declared.cert_name.CertName.{CertName}
use Rattle.coalescing.specs.declared.refusal.CertRefusal.TheVariants.{BadName}
use Rattle.coalescing.specs.NamesGrammar.{with_commas}
use Rattle.coalescing.specs.NamesReading.{Answer, read_item, name_onto, read_items, items_of}
use Rattle.coalescing.proofs.Commas.{length_all_commas}

-- names that were read before others
abbrev pub names_before : List CertName → Answer → Answer
names_before names (Ok more) = Ok (names ++ more)
names_before names (Err at) = Err at

-- the names of the first items are read, and this many items are behind
pub record IsSoFar (text : List ℕ) (names : List CertName) (place count : ℕ) : Type 0 where
  pub rest : read_items 0 (items_of text) ≡ names_before names (read_items place (drop count (items_of text)))
  pub within : place + length (with_commas (drop count (items_of text))) ≡ length text + 1

before_none : (answer : Answer) → answer ≡ names_before [] answer
before_none (Ok names) = refl
before_none (Err at) = refl

pub at_start : (text : List ℕ) → IsSoFar text [] 0 0
at_start text = record {
  rest = before_none (read_items 0 (items_of text));
  within = omega (arith, length_all_commas text);
}

before_push : (names : List CertName) (name : CertName) (place : ℕ) (answer : Answer) → names_before names (name_onto place (Some name) answer) ≡ names_before (names ++ name ∷ []) answer
before_push names name place (Ok more) = ap Ok (sym (append_assoc names (name ∷ []) more))
before_push names name place (Err at) = refl

pub one_more : (text : List ℕ) (names : List CertName) (name : CertName) (item : List ℕ) (place count : ℕ) → IsSoFar text names place count
    → drop count (items_of text) ≡ item ∷ drop (count + 1) (items_of text) → Some name ≡ read_item item → IsSoFar text (names ++ name ∷ []) (place + (length item + 1)) (count + 1)
one_more text names name item place count h next is =
    let more = drop (count + 1) (items_of text) in
    record {
      rest = h.rest ∙ ap (λ xs. names_before names (read_items place xs)) next
          ∙ ap (λ o. names_before names (name_onto place o (read_items (place + length item + 1) more))) (sym is)
          ∙ before_push names name place (read_items (place + length item + 1) more)
          ∙ ap (λ p. names_before (names ++ name ∷ []) (read_items p more)) (omega arith);
      within = omega (arith, h.within, ap (λ xs. length (with_commas xs)) next, length-append item (44 ∷ with_commas more));
    }

-- an item that is left stands within the text
pub place_within : (text : List ℕ) (names : List CertName) (item : List ℕ) (place count : ℕ) → IsSoFar text names place count
    → drop count (items_of text) ≡ item ∷ drop (count + 1) (items_of text) → place + length item ≤ length text
place_within text names item place count h next =
    omega (arith, h.within, ap (λ xs. length (with_commas xs)) next, length-append item (44 ∷ with_commas (drop (count + 1) (items_of text))))

pub bad_item : (text : List ℕ) (names : List CertName) (item : List ℕ) (place count : ℕ) → IsSoFar text names place count
    → drop count (items_of text) ≡ item ∷ drop (count + 1) (items_of text) → None ≡ read_item item → read_items 0 (items_of text) ≡ Err (record { place = place; reason = BadName })
bad_item text names item place count h next is =
    let more = drop (count + 1) (items_of text) in
    h.rest ∙ ap (λ xs. names_before names (read_items place xs)) next
    ∙ ap (λ o. names_before names (name_onto place o (read_items (place + length item + 1) more))) (sym is)

pub at_last : (text : List ℕ) (names : List CertName) (place count : ℕ) → IsSoFar text names place count → drop count (items_of text) ≡ [] → read_items 0 (items_of text) ≡ Ok names
at_last text names place count h none = h.rest ∙ ap (λ xs. names_before names (read_items place xs)) none ∙ ap Ok (append-nil names)
