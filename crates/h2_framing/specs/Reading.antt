-- Which streams a reader stands for, and what a piece brings.
use Rattle.std.specs.Prelude.{◌≡◌, ◌+◌, ℕ, nat_lt, if◌then◌else◌, List, [], ◌∷◌, ◌++◌, ◌⊎◌, length, take, Option, Some, None, Result, Ok, Err}
use Rattle.h2_framing.specs.declared.frame.Frame.{Frame}
use Rattle.h2_framing.specs.declared.reader.FrameReader.{FrameReader}
use Rattle.h2_framing.specs.declared.fed.Fed.{Fed}
use Rattle.h2_framing.specs.declared.fed.Fed.TheVariants.{Going, TooLarge}
use Rattle.alt_base.specs.declared.refusal.NoMemory.{NoMemory}
use Rattle.h2_framing.specs.Frames.{head_of, is_kept}
use Rattle.h2_framing.specs.Streams.{frames_of, rest_of, too_large_of}

-- what is held of an unfinished frame: the head alone where the payload won't be kept
abbrev pub held_part : List ℕ → List ℕ
held_part rest = if nat_lt (length rest) 9 then rest else (if is_kept (head_of rest).kind then rest else take 9 rest)

-- how many octets that is
abbrev pub held_count : List ℕ → ℕ
held_count rest = if nat_lt (length rest) 9 then length rest else (if is_kept (head_of rest).kind then length rest else 9)

-- an unfinished frame: the octets that are held of it, and the number of those that are only counted
pub record Keeps (held : List ℕ) (skipped : ℕ) (rest : List ℕ) : Type 0 where
  pub part : held ≡ held_part rest
  pub counted : length (held_part rest) + skipped ≡ length rest

-- the octets in a reader's buffer
abbrev pub buffer_of : FrameReader → List ℕ
buffer_of reader = reader.buffer.items

-- the reader stands for the stream x, in which no length is above the limit
pub record StandsFor (reader : FrameReader) (x : List ℕ) : Type 0 where
  pub keeps : Keeps (buffer_of reader) reader.skipped (rest_of x)
  pub going : too_large_of x ≡ None

-- the piece p behind the stream x brings these frames, beyond those of x, and behind them this length above the limit, or none
pub record Brings (x p : List ℕ) (frames : List Frame) (too_large : Option ℕ) : Type 0 where
  pub frames_are : frames_of (x ++ p) ≡ frames_of x ++ frames
  pub too_large_is : too_large_of (x ++ p) ≡ too_large

-- the answer to the piece p behind the stream x
abbrev pub AnswersPiece : Result Fed NoMemory → List ℕ → List ℕ → Type 0
AnswersPiece (Ok (Going reader frames)) x p = StandsFor reader (x ++ p) × Brings x p frames None
AnswersPiece (Ok (TooLarge frames n)) x p = Brings x p frames (Some n)
AnswersPiece (Err fault) x p = Unit {0}

-- an answer with frames in front of its own
abbrev pub with_frames : List Frame → Result Fed NoMemory → Result Fed NoMemory
with_frames before (Ok (Going reader frames)) = Ok (Going reader (before ++ frames))
with_frames before (Ok (TooLarge frames n)) = Ok (TooLarge (before ++ frames) n)
with_frames before (Err fault) = Err fault

-- pieces, one after the other
abbrev pub joined : List (List ℕ) → List ℕ
joined [] = []
joined (piece ∷ pieces) = piece ++ joined pieces

-- these pieces behind the stream x, one by one up to a length above the limit, bring these frames in all
abbrev pub BringAll : List ℕ → List (List ℕ) → List Frame → Option ℕ → Type 0
BringAll x [] frames too_large = (frames ≡ []) × (too_large ≡ None)
BringAll x (piece ∷ pieces) frames too_large = ((n : ℕ) × (too_large ≡ Some n) × Brings x piece frames (Some n))
    ⊎ ((first : List Frame) × (later : List Frame) × (frames ≡ first ++ later) × Brings x piece first None × BringAll (x ++ piece) pieces later too_large)
