-- What a reading gives: a value, the place behind it and the bytes from there on; or a refusal.
use Rattle.std.specs.Prelude.{◌≡◌, ℕ, Bool, false, nat_eq, List, [], ◌∷◌, drop, Result, Ok, Err}
use Rattle.alt_base.specs.declared.refusal.At.{At}
use Rattle.alt_base.specs.declared.refusal.Refused.{Refused}
use Rattle.alt_base.specs.declared.refusal.Refused.TheVariants as refusal
use Rattle.altsvc_grammar.specs.declared.refusal.AltRefusal.{AltRefusal}

pub record Step (A : Type 0) : Type 0 where
  pub value : A
  pub place : ℕ
  pub rest : List ℕ

abbrev pub refused : {A : Type 0} → ℕ → AltRefusal → Result A (At AltRefusal)
refused place reason = Err (record { place = place; reason = reason })

-- whether this byte stands in front
abbrev pub begins_with : ℕ → List ℕ → Bool
begins_with byte [] = false
begins_with byte (b ∷ bs) = nat_eq b byte

-- unless memory wasn't found, the answer of a call on this input is the reading's: its value and the place behind
-- it, or its refusal at the same place
abbrev pub GivesStep : {A R : Type 0} → List ℕ → Result (A × ℕ) (Refused R) → Result (Step A) (At R) → Type 0
GivesStep input (Ok answer) reading = reading ≡ Ok (record { value = answer.0; place = answer.1; rest = drop answer.1 input })
GivesStep input (Err refusal.NoMemory) reading = Unit {0}
GivesStep input (Err (refusal.At place reason)) reading = reading ≡ Err (record { place = place; reason = reason })
