-- Reading the payload of an ALTSVC frame.
use Rattle.std.specs.Prelude.{ℕ, ◌+◌, ◌*◌, nat_eq, nat_lt, List, [], ◌∷◌, length, take, drop, Option, None, Some, Result, Ok, Err, if◌then◌else◌}
use Rattle.alt_base.specs.declared.refusal.At.{At}
use Rattle.origin_values.specs.AsciiReading.{ascii_origin}
use Rattle.origin_values.specs.declared.origin.Origin.{Origin}
use Rattle.altsvc_grammar.specs.ValueReading.{read_value}
use Rattle.altsvc_grammar.specs.declared.alt_svc.AltSvc.{AltSvc}
use Rattle.altsvc_grammar.specs.declared.refusal.AltRefusal.{AltRefusal}
use Rattle.altsvc_frame.specs.declared.frame.AltFrame.{AltFrame}
use Rattle.altsvc_frame.specs.declared.refusal.AltFrameRefusal.{AltFrameRefusal}
use Rattle.altsvc_frame.specs.declared.refusal.AltFrameRefusal.TheVariants.{Short, OriginPast, EmptyOnZero, OriginOnStream, BadOrigin, BadField}

abbrev pub Answer : Type 0
Answer = Result AltFrame (At AltFrameRefusal)

abbrev pub refused : ℕ → AltFrameRefusal → Answer
refused place reason = Err (record { place = place; reason = reason })

-- the frame of what the field at a place says
abbrev pub with_field : Option Origin → ℕ → Result AltSvc (At AltRefusal) → Answer
with_field origin place (Ok value) = Ok (record { origin = origin; value = value })
with_field origin place (Err at) = refused (place + at.place) BadField

-- the field's value, at a place
abbrev pub read_field : Option Origin → ℕ → List ℕ → Answer
read_field origin place field = with_field origin place (read_value field)

-- the field behind an origin that was read
abbrev pub behind_origin : ℕ → List ℕ → Option Origin → Answer
behind_origin place field None = refused 2 BadOrigin
behind_origin place field (Some origin) = read_field (Some origin) place field

-- on stream 0 an origin is there
abbrev pub read_on_zero : List ℕ → List ℕ → Answer
read_on_zero [] field = refused 0 EmptyOnZero
read_on_zero (b ∷ bs) field = behind_origin (2 + length (b ∷ bs)) field (ascii_origin (b ∷ bs))

-- on another stream none is
abbrev pub read_on_other : List ℕ → List ℕ → Answer
read_on_other [] field = read_field None 2 field
read_on_other (b ∷ bs) field = refused 0 OriginOnStream

-- the origin's text and the field on this stream
abbrev pub read_parts : ℕ → List ℕ → List ℕ → Answer
read_parts stream text field = if nat_eq stream 0 then read_on_zero text field else read_on_other text field

-- an origin of so many octets, and the field
abbrev pub read_octets : ℕ → ℕ → List ℕ → Answer
read_octets stream count octets =
    if nat_lt (length octets) count then refused 0 OriginPast
    else read_parts stream (take count octets) (drop count octets)

abbrev pub read_frame : ℕ → List ℕ → Answer
read_frame stream [] = refused 0 Short
read_frame stream (high ∷ []) = refused 1 Short
read_frame stream (high ∷ low ∷ octets) = read_octets stream (high * 256 + low) octets
