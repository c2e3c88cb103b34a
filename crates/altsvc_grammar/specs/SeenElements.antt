-- What a reading kept of the elements so far, in the terms of the definitions.
use Rattle.std.specs.Prelude.{◌≡◌, ℕ, List, drop, Result, Ok, Err}
use Rattle.alt_base.specs.declared.refusal.At.{At}
use Rattle.alt_base.specs.declared.refusal.Refused.{Refused}
use Rattle.alt_base.specs.declared.refusal.Refused.TheVariants as refusal
use Rattle.altsvc_grammar.specs.Steps.{Step}
use Rattle.altsvc_grammar.specs.ValueReading as reading
use Rattle.altsvc_grammar.specs.declared.seen.Seen.{Seen}

abbrev pub seen_of : Seen → reading.Seen
seen_of seen = record { clear = seen.clear; kept = seen.kept.entries }

-- unless memory wasn't found, what was seen is the reading's, or its refusal at the same place
abbrev pub GivesSeen : {R : Type 0} → Result Seen (Refused R) → Result reading.Seen (At R) → Type 0
GivesSeen (Ok seen) said = said ≡ Ok (seen_of seen)
GivesSeen (Err refusal.NoMemory) said = Unit {0}
GivesSeen (Err (refusal.At place reason)) said = said ≡ Err (record { place = place; reason = reason })

-- the same of a call that answers the place behind what it saw in this input
abbrev pub GivesPlace : {R : Type 0} → List ℕ → Seen → Result ℕ (Refused R) → Result (Step reading.Seen) (At R) → Type 0
GivesPlace input seen (Ok end) said = said ≡ Ok (record { value = seen_of seen; place = end; rest = drop end input })
GivesPlace input seen (Err refusal.NoMemory) said = Unit {0}
GivesPlace input seen (Err (refusal.At place reason)) said = said ≡ Err (record { place = place; reason = reason })
