-- Reading the items of an answer one by one, whatever reads one of them.
use Rattle.std.proofs.Common.{◌≡◌, ℕ, ◌+◌, ◌<◌, ◌≤◌, ◌^◌, List, [], ◌∷◌, ◌++◌, length, take, drop, length-drop, Option, Some, None, Ok, Err, append_assoc, append-nil, refl, ap, sym, ◌∙◌, arith}
use Rattle.std.proofs.lemmas.List.{nil_from_length}
use Rattle.std.specs.List.{slice_split}
use Rattle.event_lines.specs.AnswerReading.{Items, words_behind, items_from}
use Rattle.event_lines.specs.Parts.{◌>>=◌, is_space, before_space, from_space, value_or, refused}
use Rattle.event_lines.specs.declared.refusal.LineRefusal.TheVariants.{BadField}
use Rattle.event_lines.proofs.AnswerWords.{words_split}
use Rattle.event_lines.proofs.Words.{word_taken, word_dropped}

abbrev Reader : Type 0
Reader = List ℕ → Option (List ℕ)

abbrev pub got_items : List (List ℕ) → Items
got_items items = Ok items

-- the reading of further words
abbrev pub read_on : Reader → List (List ℕ) → ℕ → List (List ℕ) → Items
read_on read so_far place words = items_from read place words >>= λ (items : List (List ℕ)). got_items (so_far ++ items)

-- at first there is no item
pub read_begins : (read : Reader) (place : ℕ) (words : List (List ℕ)) → read_on read [] place words ≡ items_from read place words
read_begins read place words = go (items_from read place words)
  where
    go : (r : Items) → (r >>= λ (items : List (List ℕ)). got_items items) ≡ r
    go (Ok items) = refl
    go (Err at) = refl

abbrev item_then : Reader → List (List ℕ) → ℕ → ℕ → Option (List ℕ) → List (List ℕ) → Items
item_then read so_far place count o words = value_or BadField (place + 1) o >>= λ (item : List ℕ). read_on read (so_far ++ item ∷ []) (place + 1 + count) words

-- one word more
one_more : (read : Reader) (so_far : List (List ℕ)) (place : ℕ) (word : List ℕ) (words : List (List ℕ)) → read_on read so_far place (word ∷ words) ≡ item_then read so_far place (length word) (read word) words
one_more read so_far place word words = go (read word) (items_from read (place + 1 + length word) words)
  where
    go : (o : Option (List ℕ)) (r : Items) → ((value_or BadField (place + 1) o >>= λ (item : List ℕ). r >>= λ (items : List (List ℕ)). got_items (item ∷ items)) >>= λ (items : List (List ℕ)). got_items (so_far ++ items))
        ≡ (value_or BadField (place + 1) o >>= λ (item : List ℕ). r >>= λ (items : List (List ℕ)). got_items ((so_far ++ item ∷ []) ++ items))
    go None r = refl
    go (Some item) (Err at) = refl
    go (Some item) (Ok items) = ap got_items (sym (append_assoc so_far (item ∷ []) items))

-- the first word of a text, by its length
one_word : (read : Reader) (so_far : List (List ℕ)) (place n : ℕ) (x : List ℕ) (o : Option (List ℕ)) → n ≡ length (before_space x) → o ≡ read (take n x)
    → read_on read so_far place (slice_split is_space x) ≡ item_then read so_far place n o (words_behind (drop n x))
one_word read so_far place n x o count is =
    ap (read_on read so_far place) (words_split x)
    ∙ one_more read so_far place (before_space x) (words_behind (from_space x))
    ∙ ap (λ p. item_then read so_far place (length (before_space x)) p (words_behind (from_space x))) (ap read (sym (ap (λ m. take m x) count ∙ word_taken x)) ∙ sym is)
    ∙ ap (λ t. item_then read so_far place (length (before_space x)) o (words_behind t)) (sym (ap (λ m. drop m x) count ∙ word_dropped x))
    ∙ ap (λ m. item_then read so_far place m o (words_behind (drop n x))) (sym count)

behind_space : (rest : List ℕ) → 1 ≤ length rest → words_behind rest ≡ slice_split is_space (drop 1 rest)
behind_space [] some = absurd (omega arith)
behind_space (b ∷ bs) some = refl

-- what is left begins with a space and a word
first_read : (read : Reader) (so_far : List (List ℕ)) (place n : ℕ) (rest behind : List ℕ) (o : Option (List ℕ)) → 1 ≤ length rest → behind ≡ drop 1 rest → n ≡ length (before_space behind) → o ≡ read (take n behind)
    → read_on read so_far place (words_behind rest) ≡ item_then read so_far place n o (words_behind (drop n behind))
first_read read so_far place n rest behind o some is count reads =
    ap (read_on read so_far place) (behind_space rest some ∙ ap (slice_split is_space) (sym is)) ∙ one_word read so_far place n behind o count reads

-- a word that is no item
pub item_none : (read : Reader) (so_far : List (List ℕ)) (place n : ℕ) (rest behind : List ℕ) (reading : Items) → 1 ≤ length rest → behind ≡ drop 1 rest → n ≡ length (before_space behind) → None ≡ read (take n behind)
    → read_on read so_far place (words_behind rest) ≡ reading → reading ≡ refused (place + 1) BadField
item_none read so_far place n rest behind reading some is count reads h = sym h ∙ first_read read so_far place n rest behind None some is count reads

one_place : (place n : ℕ) → place + (1 + n) ≡ place + 1 + n
one_place place n = omega arith

-- a word that is one
pub item_next : (read : Reader) (so_far new : List (List ℕ)) (place n : ℕ) (rest behind left item : List ℕ) (reading : Items) → 1 ≤ length rest → behind ≡ drop 1 rest → n ≡ length (before_space behind) → Some item ≡ read (take n behind)
    → new ≡ so_far ++ item ∷ [] → left ≡ drop n behind → read_on read so_far place (words_behind rest) ≡ reading → read_on read new (place + (1 + n)) (words_behind left) ≡ reading
item_next read so_far new place n rest behind left item reading some is count reads pushed is_left h =
    ap (λ xs. read_on read xs (place + (1 + n)) (words_behind left)) pushed
    ∙ ap (λ p. read_on read (so_far ++ item ∷ []) p (words_behind left)) (one_place place n)
    ∙ ap (λ t. read_on read (so_far ++ item ∷ []) (place + 1 + n) (words_behind t)) is_left
    ∙ sym (first_read read so_far place n rest behind (Some item) some is count reads) ∙ h

-- nothing is left
pub item_last : (read : Reader) (so_far : List (List ℕ)) (place : ℕ) (rest : List ℕ) (reading : Items) → length rest < 1 → read_on read so_far place (words_behind rest) ≡ reading → reading ≡ got_items so_far
item_last read so_far place rest reading short h =
    sym h ∙ ap (λ t. read_on read so_far place (words_behind t)) (nil_from_length rest (omega (arith, short))) ∙ ap got_items (append-nil so_far)

-- what is left ends within the line
pub item_small : (place n : ℕ) (rest behind left : List ℕ) → 1 ≤ length rest → behind ≡ drop 1 rest → n ≤ length behind → left ≡ drop n behind → place + length rest < 2 ^ 32 → place + (1 + n) + length left < 2 ^ 32
item_small place n rest behind left some is within is_left small = omega (arith, length-drop 1 rest, ap length is, length-drop n behind, ap length is_left)
