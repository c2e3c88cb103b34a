-- What `show frames` writes for the octets that it took, and where it stops.
use Rattle.std.specs.Prelude.{ℕ, ◌-◌, Bool, true, false, ◌&&◌, nat_lt, List, [], ◌∷◌, ◌++◌, length, take, Option, Some, None, if◌then◌else◌}
use Rattle.h2_framing.specs.Streams.{frames_of, rest_of, too_large_of}
use Rattle.altroute_show.specs.Ends.{Outcome}
use Rattle.altroute_show.specs.Given.{refused_at}
use Rattle.altroute_show.specs.FrameLines.{frame_lines}

-- why it stops before the end: a head that gives a length above 16,384 (RFC 9113 4.2), the end of the input within a
-- frame, the input's byte 67,108,865
pub data FrameStop : Type 0 where
  AtTooLarge : FrameStop
  AtUnfinished : FrameStop
  AtLongInput : FrameStop

abbrev pub FrameOutcome : Type 0
FrameOutcome = Outcome FrameStop

-- the lines of the whole frames of some octets
abbrev pub frames_text : List ℕ → List ℕ
frames_text octets = frame_lines (frames_of octets)

-- the place behind these whole frames: how many octets they have
abbrev pub place_behind : List ℕ → ℕ
place_behind octets = length octets - length (rest_of octets)

abbrev pub is_some_octet : List ℕ → Bool
is_some_octet [] = false
is_some_octet (octet ∷ octets) = true

abbrev pub goes_on : List ℕ → FrameOutcome
goes_on text = record { text = text; stop = None }

abbrev pub stops : List ℕ → FrameStop → FrameOutcome
stops text why = record { text = text; stop = Some why }

-- the end of the input, where it has come: refusal 2 at its length, where it is within a frame
abbrev pub end_outcome : List ℕ → Bool → FrameOutcome
end_outcome octets ended =
    if ended && is_some_octet (rest_of octets) then stops (frames_text octets ++ refused_at 2 (length octets)) AtUnfinished
    else goes_on (frames_text octets)

-- the octets within the limit of an input, by the length above 16,384 that stands behind their whole frames, or none,
-- and by whether more octets were taken: refusal 1 stands at the first octet of that head
abbrev pub limited_outcome : List ℕ → Option ℕ → Bool → Bool → FrameOutcome
limited_outcome octets (Some n) more ended = stops (frames_text octets ++ refused_at 1 (place_behind octets)) AtTooLarge
limited_outcome octets None more ended = if more then stops (frames_text octets) AtLongInput else end_outcome octets ended

-- the outcome for the octets taken, and whether the input ended behind them
abbrev pub frame_outcome : List ℕ → Bool → FrameOutcome
frame_outcome octets ended =
    let first = take 67108864 octets in
    limited_outcome first (too_large_of first) (nat_lt 67108864 (length octets)) ended
