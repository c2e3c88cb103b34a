-- The word in front of a text.
use Rattle.std.proofs.Common.{◌≡◌, ℕ, ◌+◌, ◌-◌, ◌≤◌, Bool, true, false, cond, List, [], ◌∷◌, ◌++◌, length, take, drop, refl, ap, ◌∙◌, arith, length-drop}
use Rattle.std.proofs.lemmas.List.{take_all}
use Rattle.std.proofs.Math.Seq.{drop-append_seam, take-append_seam}
use Rattle.event_lines.specs.Parts.{Part, is_space, before_space, from_space, first_word, behind_word}

-- the word and what is left make up the text
pub word_split : (x : List ℕ) → x ≡ before_space x ++ from_space x
word_split [] = refl
word_split (b ∷ bs) = go (is_space b) (word_split bs)
  where
    go : (t : Bool) → bs ≡ before_space bs ++ from_space bs → b ∷ bs ≡ cond t [] (b ∷ before_space bs) ++ cond t (b ∷ bs) (from_space bs)
    go true rec = refl
    go false rec = ap (λ xs. b ∷ xs) rec

pub word_taken : (x : List ℕ) → take (length (before_space x)) x ≡ before_space x
word_taken x = ap (take (length (before_space x))) (word_split x) ∙ take-append_seam (before_space x) (from_space x)

pub word_dropped : (x : List ℕ) → drop (length (before_space x)) x ≡ from_space x
word_dropped x = ap (drop (length (before_space x))) (word_split x) ∙ drop-append_seam (before_space x) (from_space x)

abbrev part_of : List ℕ → ℕ → Part
part_of text place = record { text = text; place = place }

-- the word that a reader takes, and what it leaves
pub word_of : (part : Part) (rest : List ℕ) (place n : ℕ) → part_of rest place ≡ part → n ≡ length (before_space rest)
    → part_of (take n rest) place ≡ first_word part
word_of part rest place n is count =
    ap (λ m. part_of (take m rest) place) count ∙ ap (λ t. part_of t place) (word_taken rest) ∙ ap first_word is

pub left_of : (part : Part) (rest : List ℕ) (place n : ℕ) → part_of rest place ≡ part → n ≡ length (before_space rest) → n ≤ length rest
    → part_of (take (length rest - n) (drop n rest)) (place + n) ≡ behind_word part
left_of part rest place n is count within =
    ap (λ t. part_of t (place + n)) (take_all (length rest - n) (drop n rest) (omega (arith, length-drop n rest)))
    ∙ ap (λ m. part_of (drop m rest) (place + m)) count
    ∙ ap (λ t. part_of t (place + length (before_space rest))) (word_dropped rest) ∙ ap behind_word is
