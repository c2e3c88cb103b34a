-- The words of a text, each behind a space.
use Rattle.std.proofs.Common.{◌≡◌, ℕ, Bool, true, false, cond, List, [], ◌∷◌, ◌++◌, append_assoc, append-nil, refl, ap, sym, ◌∙◌}
use Rattle.std.specs.List.{slice_split, onto_first}
use Rattle.alt_base.proofs.Numbers.{false_eq, true_eq}
use Rattle.event_lines.specs.AnswerReading.{words_behind}
use Rattle.event_lines.specs.Parts.{is_space, before_space, from_space}
use Rattle.event_lines.specs.WordGrammar.{NoSpace, AreApart, spaced}
use Rattle.event_lines.specs.LineRefusals.{EndsWord}
use Rattle.event_lines.proofs.Spaces.{before_front, from_front}

-- the first word of a text, and those behind it
pub words_split : (x : List ℕ) → slice_split is_space x ≡ before_space x ∷ words_behind (from_space x)
words_split [] = refl
words_split (b ∷ bs) = go (is_space b) (words_split bs)
  where
    go : (t : Bool) → slice_split is_space bs ≡ before_space bs ∷ words_behind (from_space bs)
        → cond t ([] ∷ slice_split is_space bs) (onto_first b (slice_split is_space bs)) ≡ cond t [] (b ∷ before_space bs) ∷ words_behind (cond t (b ∷ bs) (from_space bs))
    go true is = refl
    go false is = ap (onto_first b) is

pub first_word_of : (word behind : List ℕ) → NoSpace word → EndsWord behind → slice_split is_space (word ++ behind) ≡ word ∷ words_behind behind
first_word_of word behind apart end =
    words_split (word ++ behind)
    ∙ ap (λ w. w ∷ words_behind (from_space (word ++ behind))) (before_front word behind apart end)
    ∙ ap (λ t. word ∷ words_behind t) (from_front word behind apart end)

spaced_then_ends : (words : List (List ℕ)) (rest : List ℕ) → EndsWord rest → EndsWord (spaced words ++ rest)
spaced_then_ends [] rest end = end
spaced_then_ends (word ∷ words) rest end = refl

-- the words of words behind spaces, and of what follows
pub words_back : (words : List (List ℕ)) (rest : List ℕ) → AreApart words → EndsWord rest → words_behind (spaced words ++ rest) ≡ words ++ words_behind rest
words_back [] rest apart end = refl
words_back (word ∷ words) rest apart end =
    ap (slice_split is_space) (append_assoc word (spaced words) rest)
    ∙ first_word_of word (spaced words ++ rest) apart.0 (spaced_then_ends words rest end)
    ∙ ap (λ ws. word ∷ ws) (words_back words rest apart.1 end)

pub words_all : (words : List (List ℕ)) → AreApart words → words_behind (spaced words) ≡ words
words_all words apart = ap words_behind (sym (append-nil (spaced words))) ∙ words_back words [] apart tt ∙ append-nil words

-- a text is its words, each behind a space
words_joined : (x : List ℕ) → 32 ∷ x ≡ spaced (slice_split is_space x)
words_joined [] = refl
words_joined (b ∷ bs) = go (is_space b) refl (slice_split is_space bs) (words_joined bs)
  where
    go : (t : Bool) → is_space b ≡ t → (words : List (List ℕ)) → 32 ∷ bs ≡ spaced words → 32 ∷ b ∷ bs ≡ spaced (cond t ([] ∷ words) (onto_first b words))
    go true is words h = ap (λ c. 32 ∷ c ∷ bs) (true_eq b 32 is) ∙ ap (λ x. 32 ∷ x) h
    go false is [] h = cc
    go false is (word ∷ words) h = let rest : bs ≡ word ++ spaced words = cc in ap (λ x. 32 ∷ b ∷ x) rest

pub spaced_of : (text : List ℕ) → EndsWord text → text ≡ spaced (words_behind text)
spaced_of [] end = refl
spaced_of (b ∷ bs) end = ap (λ c. c ∷ bs) end ∙ words_joined bs

words_apart : (x : List ℕ) → AreApart (slice_split is_space x)
words_apart [] = (tt, tt)
words_apart (b ∷ bs) = go (is_space b) refl (slice_split is_space bs) (words_apart bs)
  where
    go : (t : Bool) → is_space b ≡ t → (words : List (List ℕ)) → AreApart words → AreApart (cond t ([] ∷ words) (onto_first b words))
    go true is words h = (tt, h)
    go false is [] h = ((false_eq b 32 is, tt), tt)
    go false is (word ∷ words) h = ((false_eq b 32 is, h.0), h.1)

pub apart_behind : (text : List ℕ) → AreApart (words_behind text)
apart_behind [] = tt
apart_behind (b ∷ bs) = words_apart bs

pub apart_parts : (good : List (List ℕ)) (word : List ℕ) (more : List (List ℕ)) → AreApart (good ++ word ∷ more) → AreApart good × NoSpace word
apart_parts [] word more h = (tt, h.0)
apart_parts (first ∷ good) word more h = let rest = apart_parts good word more h.1 in ((h.0, rest.0), rest.1)

pub spaced_append : (xs ys : List (List ℕ)) → spaced (xs ++ ys) ≡ spaced xs ++ spaced ys
spaced_append [] ys = refl
spaced_append (x ∷ xs) ys = ap (λ t. 32 ∷ (x ++ t)) (spaced_append xs ys) ∙ ap (λ t. 32 ∷ t) (sym (append_assoc x (spaced xs) (spaced ys)))
