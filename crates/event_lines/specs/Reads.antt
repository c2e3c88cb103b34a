-- What a result says of the reading that a definition gives.
use Rattle.std.specs.Prelude.{◌≡◌, ℕ, Result, Ok, Err}
use Rattle.alt_base.specs.declared.moment.Moment.{Moment}
use Rattle.alt_base.specs.declared.refusal.At.{At}
use Rattle.alt_base.specs.declared.refusal.Refused.{Refused}
use Rattle.alt_base.specs.declared.refusal.Refused.TheVariants as refused
use Rattle.event_lines.specs.Parts.{Part, Reading}
use Rattle.event_lines.specs.declared.event.Event.{Event}
use Rattle.event_lines.specs.declared.refusal.LineRefusal.{LineRefusal}

-- the result is the reading's: its value, with what is left behind it, or its refusal
abbrev pub Reads : {A : Type 0} → Result A (At LineRefusal) → Part → Reading A → Type 0
Reads (Ok value) rest reading = reading ≡ Ok (value, rest)
Reads (Err at) rest reading = reading ≡ Err at

-- the same, unless memory wasn't found
abbrev pub MayRead : {A : Type 0} → Result A (Refused LineRefusal) → Part → Reading A → Type 0
MayRead (Ok value) rest reading = reading ≡ Ok (value, rest)
MayRead (Err refused.NoMemory) rest reading = Unit {0}
MayRead (Err (refused.At place reason)) rest reading = reading ≡ Err (record { place = place; reason = reason })

-- the same, of a reading that leaves nothing
abbrev pub MayGive : {A : Type 0} → Result A (Refused LineRefusal) → Result A (At LineRefusal) → Type 0
MayGive (Ok value) reading = reading ≡ Ok value
MayGive (Err refused.NoMemory) reading = Unit {0}
MayGive (Err (refused.At place reason)) reading = reading ≡ Err (record { place = place; reason = reason })

-- unless memory wasn't found, the result is the reading's: its moment and its event, or its refusal at the same place
abbrev pub IsRead : Result (Moment × Event) (Refused LineRefusal) → Result (ℕ × Event) (At LineRefusal) → Type 0
IsRead (Ok read) reading = reading ≡ Ok (read.0.0, read.1)
IsRead (Err refused.NoMemory) reading = Unit {0}
IsRead (Err (refused.At place reason)) reading = reading ≡ Err (record { place = place; reason = reason })
