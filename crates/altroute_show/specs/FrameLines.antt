-- The line that `show frames` writes for a frame.
use Rattle.std.specs.Prelude.{ℕ, nat_eq, List, [], ◌∷◌, ◌++◌, codes, Option, None, Some, Result, Ok, Err, if◌then◌else◌}
use Rattle.std.specs.Fmt.{decimal}
use Rattle.alt_base.specs.declared.refusal.At.{At}
use Rattle.origin_values.specs.declared.origin.Origin.{Origin}
use Rattle.origin_values.specs.Written.{origin_text}
use Rattle.altsvc_grammar.specs.Written.{value_text}
use Rattle.altsvc_frame.specs.declared.frame.AltFrame.{AltFrame}
use Rattle.altsvc_frame.specs.declared.refusal.AltFrameRefusal.{AltFrameRefusal}
use Rattle.altsvc_frame.specs.RefusalNumbers.{refusal_number as altsvc_number}
use Rattle.altsvc_frame.specs.FrameReading.{read_frame}
use Rattle.origin_frame.specs.declared.listed.Listed.{Listed}
use Rattle.origin_frame.specs.declared.refusal.OriginFrameRefusal.{OriginFrameRefusal}
use Rattle.origin_frame.specs.RefusalNumbers.{refusal_number as origin_number}
use Rattle.origin_frame.specs.PayloadReading.{read_listed}
use Rattle.h2_framing.specs.declared.head.Head.{Head}
use Rattle.h2_framing.specs.declared.frame.Frame.{Frame}
use Rattle.h2_framing.specs.declared.frame.Frame.TheVariants.{Kept, Passed}

-- a space and a number
abbrev pub spaced : ℕ → List ℕ
spaced number = codes " " ++ decimal number

-- a payload that is refused, by the number of the refusal and its place
abbrev pub ignored_line : List ℕ → ℕ → ℕ → ℕ → List ℕ
ignored_line kind stream number place = codes "ignored " ++ kind ++ spaced stream ++ spaced number ++ spaced place ++ codes "\n"

-- ALTSVC (RFC 7838 4): the stream, the origin or `-`, and the value of the field
abbrev pub origin_or_none : Option Origin → List ℕ
origin_or_none None = codes "-"
origin_or_none (Some origin) = origin_text origin

abbrev pub altsvc_line : ℕ → AltFrame → List ℕ
altsvc_line stream frame = codes "altsvc" ++ spaced stream ++ codes " " ++ origin_or_none frame.origin ++ codes " " ++ value_text frame.value ++ codes "\n"

abbrev pub altsvc_reading_line : ℕ → Result AltFrame (At AltFrameRefusal) → List ℕ
altsvc_reading_line stream (Ok frame) = altsvc_line stream frame
altsvc_reading_line stream (Err at) = ignored_line (codes "altsvc") stream (altsvc_number at.reason) at.place

-- ORIGIN (RFC 8336 2): the stream, the number of the entries that are skipped, and the origins
abbrev pub spaced_origins : List Origin → List ℕ
spaced_origins [] = []
spaced_origins (origin ∷ origins) = (codes " " ++ origin_text origin) ++ spaced_origins origins

abbrev pub origin_line : ℕ → Listed → List ℕ
origin_line stream listed = codes "origin" ++ spaced stream ++ spaced listed.skipped ++ spaced_origins listed.origins ++ codes "\n"

abbrev pub origin_reading_line : ℕ → Result Listed (At OriginFrameRefusal) → List ℕ
origin_reading_line stream (Ok listed) = origin_line stream listed
origin_reading_line stream (Err at) = ignored_line (codes "origin") stream (origin_number at.reason) at.place

-- a frame of another kind: its kind, length and stream
abbrev pub passed_line : Head → List ℕ
passed_line head = codes "passed" ++ spaced head.kind ++ spaced head.length ++ spaced head.stream ++ codes "\n"

-- a frame whose payload is kept: ALTSVC (kind 10), else ORIGIN (kind 12)
abbrev pub kept_line : Head → List ℕ → List ℕ
kept_line head payload =
    if nat_eq head.kind 10 then altsvc_reading_line head.stream (read_frame head.stream payload)
    else origin_reading_line head.stream (read_listed head.stream head.flags payload)

abbrev pub frame_line : Frame → List ℕ
frame_line (Kept head payload) = kept_line head payload
frame_line (Passed head) = passed_line head

-- the lines of frames, in order
abbrev pub frame_lines : List Frame → List ℕ
frame_lines [] = []
frame_lines (frame ∷ frames) = frame_line frame ++ frame_lines frames
