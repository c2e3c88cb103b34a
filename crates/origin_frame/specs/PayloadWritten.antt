-- The payload that lists origins, and what the writer answers.
use Rattle.std.specs.Prelude.{ℕ, ◌/◌, ◌%◌, ◌-◌, ◌^◌, min, List, [], ◌∷◌, ◌++◌, length, Result, Ok, Err}
use Rattle.origin_values.specs.Valid.{IsOrigin}
use Rattle.origin_values.specs.Written.{origin_text}
use Rattle.origin_values.specs.declared.origin.Origin.{Origin}
use Rattle.origin_frame.specs.declared.over_fault.OverFault.{OverFault}
use Rattle.origin_frame.specs.declared.over_fault.OverFault.TheVariants.{NoMemory, OverFrame}

-- RFC 8336 2.1: the length in two octets, and the text
abbrev pub entry_octets : List ℕ → List ℕ
entry_octets text = (length text / 256) ∷ (length text % 256) ∷ text

-- an entry for each origin's ASCII text, in order
abbrev pub payload_of : List Origin → List ℕ
payload_of [] = []
payload_of (origin ∷ origins) = entry_octets (origin_text origin) ++ payload_of origins

-- each origin is in its form
abbrev pub AreOrigins : List Origin → Type 0
AreOrigins [] = Unit {0}
AreOrigins (origin ∷ origins) = IsOrigin origin × AreOrigins origins

-- the most octets of a frame's payload (RFC 9113 4.2), until a setting changes it
abbrev pub frame_limit : ℕ
frame_limit = 16384

-- a fact of the length that was too great
abbrev pub IfOver : {T : Type 0} → Result T OverFault → (ℕ → Type 0) → Type 0
IfOver (Ok value) P = Unit {0}
IfOver (Err NoMemory) P = Unit {0}
IfOver (Err (OverFrame n)) P = P n

-- a number, or the greatest of 64 bits where it is above that
abbrev pub capped : ℕ → ℕ
capped n = min n (2 ^ 64 - 1)
