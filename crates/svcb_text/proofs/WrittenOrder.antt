-- Parameters in rising keys are distinct, and stand in the order of their keys.
use Rattle.std.proofs.Common.{◌≢◌, ℕ, suc, ◌<◌, List, [], ◌∷◌, arith}
use Rattle.std.proofs.lemmas.List.Sorted.{IsPermutation-refl}
use Rattle.svcb_wire.specs.declared.param.Param.{Param}
use Rattle.svcb_wire.specs.Octets.{key_of}
use Rattle.svcb_wire.specs.Forms.{AreParams}
use Rattle.svcb_values.specs.KeyOrder.{IsNew, AreDistinct, IsOrderOf}
use Rattle.svcb_text.specs.ParamOrder.{keys_of}
use Rattle.svcb_values.proofs.Order.{RiseFrom, rise_increases}

params_rise : (least : ℕ) (params : List Param) → AreParams least params → RiseFrom least (keys_of params)
params_rise least [] are = tt
params_rise least (param ∷ params) are = (are.0, params_rise (suc (key_of param)) params are.2)

pub params_order : (params : List Param) → AreParams 0 params → IsOrderOf key_of params params
params_order params are = record { same = IsPermutation-refl params; rising = rise_increases (keys_of params) 0 (params_rise 0 params are) }

params_new : (key least : ℕ) (params : List Param) → key < least → AreParams least params → IsNew key (keys_of params)
params_new key least [] below are = tt
params_new key least (param ∷ params) below are = (other_key key (key_of param) (omega (arith, are.0)), params_new key (suc (key_of param)) params (omega (arith, are.0)) are.2)
  where
    other_key : (a b : ℕ) → a < b → a ≢ b
    other_key a b h e = omega arith

pub params_distinct : (least : ℕ) (params : List Param) → AreParams least params → AreDistinct (keys_of params)
params_distinct least [] are = tt
params_distinct least (param ∷ params) are = (params_new (key_of param) (suc (key_of param)) params (omega arith) are.2, params_distinct (suc (key_of param)) params are.2)
