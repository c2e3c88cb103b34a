-- What a reader answers for what a definition reads, memory aside.
use Rattle.std.specs.Prelude.{◌≡◌, ℕ, Result, Ok, Err}
use Rattle.alt_base.specs.declared.refusal.At.{At}
use Rattle.alt_base.specs.declared.refusal.Refused.{Refused}
use Rattle.alt_base.specs.declared.refusal.Refused.TheVariants.{NoMemory, At as RefusedThere}

-- a refusal at a place
abbrev pub refused : {V R : Type 0} → ℕ → R → Result V (At R)
refused place reason = Err (record { place = place; reason = reason })

-- the answer is what the reading gives, its value or its refusal at the same place, where memory was found
abbrev pub Answers : {V R : Type 0} → Result V (Refused R) → Result V (At R) → Type 0
Answers (Ok value) reading = reading ≡ Ok value
Answers (Err NoMemory) reading = Unit {0}
Answers (Err (RefusedThere place reason)) reading = reading ≡ refused place reason

-- what holds of the place and the reason of a refusal
abbrev pub IfRefused : {V R : Type 0} → Result V (Refused R) → (ℕ → R → Type 0) → Type 0
IfRefused (Ok value) P = Unit {0}
IfRefused (Err NoMemory) P = Unit {0}
IfRefused (Err (RefusedThere place reason)) P = P place reason
