-- The split of a stream as a function of it.
use Rattle.std.specs.Prelude.{◌≡◌, ◌+◌, ℕ, zero, suc, nat_lt, if◌then◌else◌, List, [], ◌∷◌, length, take, drop, Option, Some, None}
use Rattle.h2_framing.specs.declared.frame.Frame.{Frame}
use Rattle.h2_framing.specs.Frames.{head_of, frame_of, Split, Splits}

-- how a stream begins: with less than a whole frame, with a head above the limit, or with a frame of so long a payload
pub data Beginning : Type 0 where
  NoWholeFrame : Beginning
  AboveLimit : (n : ℕ) → Beginning
  WholeFrame : (n : ℕ) → Beginning

-- by the length that the head gives, and the number of octets
abbrev pub beginning_by : ℕ → ℕ → Beginning
beginning_by n count = if nat_lt 16384 n then AboveLimit n else (if nat_lt count (9 + n) then NoWholeFrame else WholeFrame n)

abbrev pub beginning_of : List ℕ → Beginning
beginning_of x = if nat_lt (length x) 9 then NoWholeFrame else beginning_by (head_of x).length (length x)

abbrev pub no_frames : List ℕ → Option ℕ → Split
no_frames rest too_large = record { frames = []; rest = rest; too_large = too_large }

abbrev pub with_frame : Frame → Split → Split
with_frame frame split = record { frames = frame ∷ split.frames; rest = split.rest; too_large = split.too_large }

abbrev pub split_by : Beginning → List ℕ → (List ℕ → Split) → Split
split_by NoWholeFrame x next = no_frames x None
split_by (AboveLimit n) x next = no_frames x (Some n)
split_by (WholeFrame n) x next = with_frame (frame_of (head_of x) (take n (drop 9 x))) (next (drop (9 + n) x))

-- the split, of at most so many frames
abbrev pub split_within : ℕ → List ℕ → Split
split_within zero x = no_frames x None
split_within (suc n) x = split_by (beginning_of x) x (split_within n)

-- each frame has octets, so there are at most as many frames as octets
unfoldable pub split_of : List ℕ → Split
split_of x = split_within (length x) x

-- the whole frames of a stream
abbrev pub frames_of : List ℕ → List Frame
frames_of x = (split_of x).frames

-- the octets behind its whole frames
abbrev pub rest_of : List ℕ → List ℕ
rest_of x = (split_of x).rest

-- the length above the limit that stands behind its whole frames
abbrev pub too_large_of : List ℕ → Option ℕ
too_large_of x = (split_of x).too_large

-- there is exactly one split
pub record HasOneSplit (stream : List ℕ) : Type 0 where
  pub some : Splits stream (split_of stream)
  pub only : (split : Split) → Splits stream split → split ≡ split_of stream
