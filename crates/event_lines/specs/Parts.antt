-- The parts of a line between its spaces, and reading them from left to right.
use Rattle.std.specs.Prelude.{ℕ, ◌+◌, Bool, nat_eq, List, [], ◌∷◌, length, Option, Some, None, Result, Ok, Err, if◌then◌else◌}
use Rattle.std.specs.Cmp.Lexicographic.{pointwise}
use Rattle.alt_base.specs.declared.refusal.At.{At}
use Rattle.event_lines.specs.declared.refusal.LineRefusal.{LineRefusal}
use Rattle.event_lines.specs.declared.refusal.LineRefusal.TheVariants.{BadField}

-- a part of a line, and the place where it begins
pub record Part : Type 0 where
  pub text : List ℕ
  pub place : ℕ

abbrev pub is_space : ℕ → Bool
is_space b = nat_eq b 32

-- what stands before the first space, or the whole text
abbrev pub before_space : List ℕ → List ℕ
before_space [] = []
before_space (b ∷ bs) = if is_space b then [] else b ∷ before_space bs

-- what stands from the first space on
abbrev pub from_space : List ℕ → List ℕ
from_space [] = []
from_space (b ∷ bs) = if is_space b then b ∷ bs else from_space bs

-- the word in front, and what is left behind it
abbrev pub first_word : Part → Part
first_word part = record { text = before_space part.text; place = part.place }

abbrev pub behind_word : Part → Part
behind_word part = record { text = from_space part.text; place = part.place + length (before_space part.text) }

abbrev pub refused : {A : Type 0} → ℕ → LineRefusal → Result A (At LineRefusal)
refused place reason = Err (record { place = place; reason = reason })

abbrev pub is_kind : List ℕ → List ℕ → Bool
is_kind kind word = pointwise nat_eq kind word

-- a value and what is left of the line behind it, or a refusal
abbrev pub Reading : Type 0 → Type 0
Reading A = Result (A × Part) (At LineRefusal)

infixl 10 ◌>>=◌
abbrev pub ◌>>=◌ : {A B : Type 0} → Result A (At LineRefusal) → (A → Result B (At LineRefusal)) → Result B (At LineRefusal)
Ok value >>= next = next value
Err at >>= next = Err at

-- the word behind the space that what is left begins with
abbrev pub word_behind : LineRefusal → List ℕ → ℕ → Reading Part
word_behind missing [] place = refused place missing
word_behind missing (space ∷ text) place =
    Ok (first_word (record { text = text; place = place + 1 }), behind_word (record { text = text; place = place + 1 }))

-- the next word; where none is left, it is refused for this reason at the line's length
abbrev pub next_word : LineRefusal → Part → Reading Part
next_word missing rest = word_behind missing rest.text rest.place

-- a value that was read, or the refusal of the place
abbrev pub value_or : {A : Type 0} → LineRefusal → ℕ → Option A → Result A (At LineRefusal)
value_or reason place (Some value) = Ok value
value_or reason place None = refused place reason

-- a field that is read so
abbrev pub field : {A : Type 0} → (List ℕ → Option A) → Part → Reading A
field read rest = do
  word ← next_word BadField rest
  value ← value_or BadField word.0.place (read word.0.text)
  Ok (value, word.1)
