-- The payload that says what a frame says.
use Rattle.std.specs.Prelude.{◌≡◌, ◌≢◌, ℕ, ◌/◌, ◌%◌, List, [], ◌∷◌, ◌++◌, length, Option, None, Some}
use Rattle.origin_values.specs.Valid.{IsOrigin}
use Rattle.origin_values.specs.Written.{origin_text}
use Rattle.origin_values.specs.declared.origin.Origin.{Origin}
use Rattle.altsvc_grammar.specs.Valid.{IsAltSvc}
use Rattle.altsvc_grammar.specs.Written.{value_text}
use Rattle.altsvc_frame.specs.declared.frame.AltFrame.{AltFrame}

-- an origin's ASCII text (RFC 6454 6.2), or nothing
abbrev pub optional_origin_text : Option Origin → List ℕ
optional_origin_text None = []
optional_origin_text (Some origin) = origin_text origin

-- the origin's length in two octets, the origin, and the field's value
abbrev pub parts_payload : List ℕ → List ℕ → List ℕ
parts_payload text field = (length text / 256) ∷ (length text % 256) ∷ (text ++ field)

-- RFC 7838 4
abbrev pub payload_of : AltFrame → List ℕ
payload_of frame = parts_payload (optional_origin_text frame.origin) (value_text frame.value)

abbrev pub IsOptionalOrigin : Option Origin → Type 0
IsOptionalOrigin None = Unit {0}
IsOptionalOrigin (Some origin) = IsOrigin origin

-- the origin and the value are in their forms
pub record IsAltFrame (frame : AltFrame) : Type 0 where
  pub origin : IsOptionalOrigin frame.origin
  pub value : IsAltSvc frame.value

-- the stream is 0 exactly where an origin is there
abbrev pub IsStreamOf : Option Origin → ℕ → Type 0
IsStreamOf None stream = stream ≢ 0
IsStreamOf (Some origin) stream = stream ≡ 0
