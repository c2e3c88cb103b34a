-- HTTP/2 frames, and how a stream of octets splits into whole frames and a rest.
use Rattle.std.specs.Prelude.{◌≡◌, ◌≤◌, ◌<◌, ◌+◌, ◌%◌, ◌^◌, ℕ, Bool, ◌||◌, ◌⊎◌, nat_eq, if◌then◌else◌, List, [], ◌∷◌, ◌++◌, length, drop, slice_index, Option, Some, None}
use Rattle.byteorder.specs.Endian.{big_number, big_bytes}
use Rattle.h2_framing.specs.declared.head.Head.{Head}
use Rattle.h2_framing.specs.declared.frame.Frame.{Frame}
use Rattle.h2_framing.specs.declared.frame.Frame.TheVariants.{Kept, Passed}

-- RFC 9113 4.1: the head that nine octets give; the reserved bit isn't read
abbrev pub head_of : List ℕ → Head
head_of octets = record { length = big_number 3 octets; kind = slice_index octets 3; flags = slice_index octets 4; stream = big_number 4 (drop 5 octets) % 2 ^ 31 }

-- ALTSVC (RFC 7838 4) and ORIGIN (RFC 8336 2)
abbrev pub is_kept : ℕ → Bool
is_kept kind = nat_eq kind 10 || nat_eq kind 12

abbrev pub frame_of : Head → List ℕ → Frame
frame_of head payload = if is_kept head.kind then Kept head payload else Passed head

-- RFC 9113 4.1: the octets of a frame; the reserved bit is 0
abbrev pub octets_of : Head → List ℕ → List ℕ
octets_of head payload = (big_bytes 3 head.length ++ (head.kind ∷ head.flags ∷ big_bytes 4 head.stream)) ++ payload

-- these octets are one whole frame, from the first octet of its head to the last one of its payload
pub record IsFrame (octets : List ℕ) (frame : Frame) : Type 0 where
  pub front : List ℕ
  pub payload : List ℕ
  pub whole : octets ≡ front ++ payload
  pub nine : length front ≡ 9
  pub fits : length payload ≡ (head_of front).length
  pub within : length payload ≤ 16384
  pub read : frame ≡ frame_of (head_of front) payload

-- a stream is these whole frames, one after the other, and then a rest
abbrev pub AreFrames : List ℕ → List Frame → List ℕ → Type 0
AreFrames stream [] rest = stream ≡ rest
AreFrames stream (frame ∷ frames) rest = (octets : List ℕ) × (more : List ℕ) × (stream ≡ octets ++ more) × IsFrame octets frame × AreFrames more frames rest

-- a head that is within the limit, and less than its payload
pub record LacksPayload (rest : List ℕ) : Type 0 where
  pub headed : 9 ≤ length rest
  pub within : (head_of rest).length ≤ 16384
  pub lacking : length rest < 9 + (head_of rest).length

-- less than one whole frame
abbrev pub IsUnfinished : List ℕ → Type 0
IsUnfinished rest = (length rest < 9) ⊎ LacksPayload rest

-- RFC 9113 4.2: a head whose length is above the limit that stands until a setting changes it
pub record IsTooLarge (rest : List ℕ) (n : ℕ) : Type 0 where
  pub headed : 9 ≤ length rest
  pub gives : (head_of rest).length ≡ n
  pub above : 16384 < n

-- what may stand behind the whole frames: less than one, or a head whose length is above the limit
abbrev pub IsRest : List ℕ → Option ℕ → Type 0
IsRest rest None = IsUnfinished rest
IsRest rest (Some n) = IsTooLarge rest n

-- whole frames, the octets behind them, and the length there that is above the limit
pub record Split : Type 0 where
  pub frames : List Frame
  pub rest : List ℕ
  pub too_large : Option ℕ

-- a stream is split so
pub record Splits (stream : List ℕ) (split : Split) : Type 0 where
  pub frames : AreFrames stream split.frames split.rest
  pub end : IsRest split.rest split.too_large
