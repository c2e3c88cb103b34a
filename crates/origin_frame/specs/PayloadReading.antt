-- Reading the payload of an ORIGIN frame.
use Rattle.std.specs.Prelude.{ℕ, zero, suc, ◌+◌, ◌*◌, bit_and, nat_eq, nat_lt, List, [], ◌∷◌, length, take, drop, Option, None, Some, Result, Ok, Err, if◌then◌else◌}
use Rattle.alt_base.specs.declared.refusal.At.{At}
use Rattle.origin_values.specs.AsciiReading.{ascii_origin}
use Rattle.origin_values.specs.declared.origin.Origin.{Origin}
use Rattle.origin_frame.specs.declared.listed.Listed.{Listed}
use Rattle.origin_frame.specs.declared.refusal.OriginFrameRefusal.{OriginFrameRefusal}
use Rattle.origin_frame.specs.declared.refusal.OriginFrameRefusal.TheVariants.{NotStreamZero, Flags, EntryPast}

abbrev pub Answer : Type 0
Answer = Result Listed (At OriginFrameRefusal)

abbrev pub refused : ℕ → OriginFrameRefusal → Answer
refused place reason = Err (record { place = place; reason = reason })

-- what is listed with one entry more in front
abbrev pub with_entry : Option Origin → Listed → Listed
with_entry (Some origin) listed = record { origins = origin ∷ listed.origins; skipped = listed.skipped }
with_entry None listed = record { origins = listed.origins; skipped = listed.skipped + 1 }

abbrev pub entry_onto : Option Origin → Answer → Answer
entry_onto origin (Ok listed) = Ok (with_entry origin listed)
entry_onto origin (Err at) = Err at

abbrev pub nothing_listed : Listed
nothing_listed = record { origins = []; skipped = 0 }

-- the entry of so many octets in front of these, and what follows
abbrev pub read_entry : ℕ → ℕ → List ℕ → (ℕ → List ℕ → Answer) → Answer
read_entry place count octets next =
    if nat_lt (length octets) count then refused place EntryPast
    else entry_onto (ascii_origin (take count octets)) (next (place + (2 + count)) (drop count octets))

-- the entries of octets that stand at a place, at most so many
abbrev pub read_within : ℕ → ℕ → List ℕ → Answer
read_within most place [] = Ok nothing_listed
read_within most place (high ∷ []) = refused place EntryPast
read_within zero place (high ∷ low ∷ octets) = refused place EntryPast
read_within (suc most) place (high ∷ low ∷ octets) = read_entry place (high * 256 + low) octets (read_within most)

-- each entry has octets, so there are at most as many entries as octets
abbrev pub read_entries : List ℕ → Answer
read_entries payload = read_within (length payload) 0 payload

abbrev pub read_listed : ℕ → ℕ → List ℕ → Answer
read_listed stream flags payload =
    if nat_eq stream 0 then (if nat_eq (bit_and flags 15) 0 then read_entries payload else refused 0 Flags)
    else refused 0 NotStreamZero
