-- Words and the spaces between them.
use Rattle.std.proofs.Common.{◌≡◌, ◌≢◌, ℕ, ◌+◌, Bool, true, false, cond, not, nat_eq, List, [], ◌∷◌, ◌++◌, length, Ok, refl, ap, ◌∙◌, arith}
use Rattle.std.specs.List.{list_all}
use Rattle.alt_base.proofs.Numbers.{eq_false, eq_true, false_eq, true_eq}
use Rattle.event_lines.specs.Parts.{Part, is_space, before_space, from_space, Reading, word_behind, next_word}
use Rattle.event_lines.specs.WordGrammar.{NoSpace, spaced}
use Rattle.event_lines.specs.LineRefusals.{EndsWord, IsFront, IsNext}
use Rattle.event_lines.specs.declared.refusal.LineRefusal.{LineRefusal}
use Rattle.alt_base.proofs.Conjunctions.{both}
use Rattle.event_lines.proofs.Words.{word_split}

-- a byte other than a space
abbrev pub is_inner : ℕ → Bool
is_inner b = not (nat_eq b 32)

abbrev pub IsInner : List ℕ → Type 0
IsInner text = list_all is_inner text ≡ true

inner_byte : (b : ℕ) → is_inner b ≡ true → b ≢ 32
inner_byte b h = grind arith

pub no_space_from : (word : List ℕ) → IsInner word → NoSpace word
no_space_from [] h = tt
no_space_from (b ∷ bs) h = let t = both (is_inner b) (list_all is_inner bs) h in (inner_byte b t.0, no_space_from bs t.1)

-- the word in front has no space, and what is left ends it
pub word_apart : (x : List ℕ) → NoSpace (before_space x)
word_apart [] = tt
word_apart (b ∷ bs) = go (is_space b) refl (word_apart bs)
  where
    go : (t : Bool) → is_space b ≡ t → NoSpace (before_space bs) → NoSpace (cond t [] (b ∷ before_space bs))
    go true is h = tt
    go false is h = (false_eq b 32 is, h)

pub word_ends : (x : List ℕ) → EndsWord (from_space x)
word_ends [] = tt
word_ends (b ∷ bs) = go (is_space b) refl (word_ends bs)
  where
    go : (t : Bool) → is_space b ≡ t → EndsWord (from_space bs) → EndsWord (cond t (b ∷ bs) (from_space bs))
    go true is h = true_eq b 32 is
    go false is h = h

pub front_of : (x : List ℕ) → IsFront x (before_space x) (from_space x)
front_of x = record { spelled = word_split x; apart = word_apart x; end = word_ends x }

-- and the other way round
before_end : (behind : List ℕ) → EndsWord behind → before_space behind ≡ []
before_end [] h = refl
before_end (b ∷ bs) h = ap (λ t. cond t [] (b ∷ before_space bs)) (eq_true b 32 h)

from_end : (behind : List ℕ) → EndsWord behind → from_space behind ≡ behind
from_end [] h = refl
from_end (b ∷ bs) h = ap (λ t. cond t (b ∷ bs) (from_space bs)) (eq_true b 32 h)

pub before_front : (word behind : List ℕ) → NoSpace word → EndsWord behind → before_space (word ++ behind) ≡ word
before_front [] behind h end = before_end behind end
before_front (b ∷ bs) behind h end =
    ap (λ t. cond t [] (b ∷ before_space (bs ++ behind))) (eq_false b 32 h.0)
    ∙ ap (λ xs. b ∷ xs) (before_front bs behind h.1 end)

pub from_front : (word behind : List ℕ) → NoSpace word → EndsWord behind → from_space (word ++ behind) ≡ behind
from_front [] behind h end = from_end behind end
from_front (b ∷ bs) behind h end =
    ap (λ t. cond t (b ∷ (bs ++ behind)) (from_space (bs ++ behind))) (eq_false b 32 h.0) ∙ from_front bs behind h.1 end

abbrev part : List ℕ → ℕ → Part
part text place = record { text = text; place = place }

abbrev took : List ℕ → List ℕ → ℕ → Reading Part
took word behind place = Ok (part word place, part behind (place + length word))

-- the next word of a text that is a space, a word and an end
pub next_reads : (missing : LineRefusal) (text word behind : List ℕ) (place : ℕ) → IsNext text word behind
    → next_word missing (record { text = text; place = place }) ≡ Ok (record { text = word; place = place + 1 }, record { text = behind; place = place + 1 + length word })
next_reads missing text word behind place s =
    ap (λ t. word_behind missing t place) s.spelled
    ∙ ap (λ t. let r : Reading Part = Ok (part t (place + 1), part (from_space (word ++ behind)) (place + 1 + length t)) in r) (before_front word behind s.apart s.end)
    ∙ ap (λ t. took word t (place + 1)) (from_front word behind s.apart s.end)

-- what a text that ends a word goes on with
pub data Next (text : List ℕ) : Type 0 where
  Nothing : text ≡ [] → Next text
  More : (word behind : List ℕ) → IsNext text word behind → Next text

pub next_of : (text : List ℕ) → EndsWord text → Next text
next_of [] h = Nothing refl
next_of (b ∷ bs) h = More (before_space bs) (from_space bs) (record { spelled = ap (λ c. c ∷ bs) h ∙ ap (λ t. 32 ∷ t) (word_split bs); apart = word_apart bs; end = word_ends bs })

pub spaced_ends : (words : List (List ℕ)) → EndsWord (spaced words)
spaced_ends [] = tt
spaced_ends (word ∷ words) = refl

pub next_spaced : (word : List ℕ) (words : List (List ℕ)) → NoSpace word → IsNext (spaced (word ∷ words)) word (spaced words)
next_spaced word words h = record { spelled = refl; apart = h; end = spaced_ends words }
