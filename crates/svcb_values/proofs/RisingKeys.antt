-- Rising keys stand in their order, and none of them twice.
use Rattle.std.proofs.Common.{◌≢◌, ℕ, suc, ◌<◌, ◌≤◌, List, [], ◌∷◌, map, arith}
use Rattle.std.proofs.lemmas.List.Sorted.{IsPermutation-refl}
use Rattle.svcb_wire.specs.Forms.{AreRising}
use Rattle.svcb_values.specs.KeyOrder.{IsNew, IsOrderOf}
use Rattle.svcb_values.specs.ValueGrammar.{AreMandatory}
use Rattle.svcb_values.proofs.Order.{RiseFrom, rise_increases}

pub keys_rise : (last : ℕ) (keys : List ℕ) → AreRising last keys → RiseFrom (suc last) (map (λ key. key) keys)
keys_rise last [] r = tt
keys_rise last (key ∷ keys) r = (omega (arith, r.0), keys_rise key keys r.2)

pub rising_order : (keys : List ℕ) → AreRising 0 keys → IsOrderOf (λ key. key) keys keys
rising_order keys r = record { same = IsPermutation-refl keys; rising = rise_increases (map (λ key. key) keys) 1 (keys_rise 0 keys r) }

rising_new : (key last : ℕ) (keys : List ℕ) → key ≤ last → AreRising last keys → IsNew key keys
rising_new key last [] least rising = tt
rising_new key last (other ∷ keys) least rising = (other_key key other (omega (arith, rising.0)), rising_new key other keys (omega (arith, rising.0)) rising.2)
  where
    other_key : (a b : ℕ) → a < b → a ≢ b
    other_key a b h e = omega arith

pub rising_mandatory : (last : ℕ) (keys : List ℕ) → AreRising last keys → AreMandatory keys
rising_mandatory last [] rising = tt
rising_mandatory last (key ∷ keys) rising =
    (omega (arith, rising.0), rising.1, rising_new key key keys (omega arith) rising.2, rising_mandatory key keys rising.2)
