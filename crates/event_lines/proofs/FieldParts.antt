-- The parts of a field of a response: runs in front, and the spaces at the end.
use Rattle.std.proofs.Common.{◌≡◌, ℕ, ◌+◌, ◌-◌, ◌≤◌, Bool, true, false, cond, List, [], ◌∷◌, length, take, drop, refl, ap, ◌∙◌, arith, length-drop}
use Rattle.std.proofs.lemmas.List.{take_all}
use Rattle.field_text.specs.Runs.{run_of, after_run}
use Rattle.field_text.proofs.RunLemmas.{run_dropped, taken_by}
use Rattle.event_lines.specs.Parts.{Part, is_space}
use Rattle.event_lines.specs.ResponseGrammar.{is_word_byte}
use Rattle.event_lines.specs.ResponseReading.{short_word, behind_short_word, onto_trimmed, without_last_spaces, trimmed}

-- a run in front is dropped by its length, as a call is given what is left
pub dropped_by : (class : ℕ → Bool) (x : List ℕ) (n : ℕ) → n ≡ length (run_of class x) → n ≤ length x → take (length x - n) (drop n x) ≡ after_run class x
dropped_by class x n is within = take_all (length x - n) (drop n x) (omega (arith, length-drop n x)) ∙ ap (λ m. drop m x) is ∙ run_dropped class x

-- how long a text is without its last spaces, where so many bytes stand before it, and the last byte before it that is no
-- space is known
abbrev pub length_from : ℕ → ℕ → List ℕ → ℕ
length_from known before [] = known
length_from known before (b ∷ bs) = before + length (b ∷ bs)

abbrev pub trimmed_length : ℕ → ℕ → List ℕ → ℕ
trimmed_length known before text = length_from known before (without_last_spaces text)

pub all_trimmed : (text : List ℕ) → trimmed_length 0 0 text ≡ length (without_last_spaces text)
all_trimmed text = go (without_last_spaces text)
  where
    go : (t : List ℕ) → length_from 0 0 t ≡ length t
    go [] = refl
    go (b ∷ bs) = omega arith

-- one byte more
pub one_trimmed : (known before b : ℕ) (bs : List ℕ) → trimmed_length known before (b ∷ bs) ≡ trimmed_length (cond (is_space b) known (before + 1)) (before + 1) bs
one_trimmed known before b bs = go (is_space b) refl (without_last_spaces bs)
  where
    go : (space : Bool) → is_space b ≡ space → (t : List ℕ) → length_from known before (onto_trimmed b t) ≡ length_from (cond space known (before + 1)) (before + 1) t
    go true is [] = ap (λ s. length_from known before (cond s [] (b ∷ []))) is
    go false is [] = ap (λ s. length_from known before (cond s [] (b ∷ []))) is
    go true is (c ∷ cs) = omega arith
    go false is (c ∷ cs) = omega arith

-- the bytes in front make up what is left without the last spaces
pub trimmed_front : (text : List ℕ) → take (length (without_last_spaces text)) text ≡ without_last_spaces text
trimmed_front [] = refl
trimmed_front (b ∷ bs) = go (without_last_spaces bs) (trimmed_front bs) (is_space b)
  where
    at_space : (space : Bool) → take (length (cond space [] (b ∷ []))) (b ∷ bs) ≡ cond space [] (b ∷ [])
    at_space true = refl
    at_space false = refl

    go : (t : List ℕ) → take (length t) bs ≡ t → Bool → take (length (onto_trimmed b t)) (b ∷ bs) ≡ onto_trimmed b t
    go [] is s = at_space (is_space b)
    go (c ∷ cs) is s = ap (λ t. b ∷ t) is

pub trimmed_within : (text : List ℕ) → length (without_last_spaces text) ≤ length text
trimmed_within [] = omega arith
trimmed_within (b ∷ bs) = go (without_last_spaces bs) (trimmed_within bs)
  where
    at_space : (space : Bool) → length (cond space [] (b ∷ [])) ≤ length (b ∷ bs)
    at_space true = omega arith
    at_space false = omega arith

    go : (t : List ℕ) → length t ≤ length bs → length (onto_trimmed b t) ≤ length (b ∷ bs)
    go [] h = at_space (is_space b)
    go (c ∷ cs) h = omega arith

-- a text without the spaces at its ends, by the lengths of its parts
pub trimmed_by : (text : List ℕ) (first last : ℕ) → first ≡ length (run_of is_space text) → first ≤ length text
    → last ≡ length (without_last_spaces (take (length text - first) (drop first text))) → take last (take (length text - first) (drop first text)) ≡ trimmed text
trimmed_by text first last is within end =
    let rest = take (length text - first) (drop first text) in
    ap (λ n. take n rest) end ∙ trimmed_front rest ∙ ap without_last_spaces (dropped_by is_space text first is within)

abbrev part_of : List ℕ → ℕ → Part
part_of text place = record { text = text; place = place }

-- the short word that a reader takes, and what it leaves
pub short_word_of : (part : Part) (rest : List ℕ) (place n : ℕ) → part_of rest place ≡ part → n ≡ length (run_of is_word_byte rest) → part_of (take n rest) place ≡ short_word part
short_word_of part rest place n is count = ap (λ t. part_of t place) (taken_by is_word_byte rest n count) ∙ ap short_word is

pub short_word_left : (part : Part) (rest : List ℕ) (place n : ℕ) → part_of rest place ≡ part → n ≡ length (run_of is_word_byte rest) → n ≤ length rest
    → part_of (take (length rest - n) (drop n rest)) (place + n) ≡ behind_short_word part
short_word_left part rest place n is count within =
    ap (λ t. part_of t (place + n)) (dropped_by is_word_byte rest n count within) ∙ ap (λ m. part_of (after_run is_word_byte rest) (place + m)) count ∙ ap behind_short_word is
