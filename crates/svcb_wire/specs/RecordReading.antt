-- Reading a record's wire form, parameter by parameter.
use Rattle.std.specs.Prelude.{ℕ, zero, suc, ◌+◌, nat_lt, if◌then◌else◌, List, [], ◌∷◌, ◌++◌, length, take, drop, Option, Some, None, Result, Ok, Err}
use Rattle.byteorder.specs.Endian.{big_number}
use Rattle.alt_base.specs.declared.refusal.At.{At}
use Rattle.dns_names.specs.WireReading.{WireAnswer, read_wire}
use Rattle.svcb_wire.specs.declared.param.Param.{Param}
use Rattle.svcb_wire.specs.declared.svcb.Svcb.{Svcb}
use Rattle.svcb_wire.specs.declared.refusal.WireRefusal.{WireRefusal}
use Rattle.svcb_wire.specs.declared.refusal.WireRefusal.TheVariants.{Short, BadTarget, KeyOrder, ParamPast, BadValue, TooLong}
use Rattle.alt_base.specs.Answers.{refused}
use Rattle.svcb_wire.specs.Octets.{key_of}
use Rattle.svcb_wire.specs.ValueReading.{read_value}

-- a parameter and how many octets it takes, or a refusal at a place
abbrev pub ParamAnswer : Type 0
ParamAnswer = Result (Param × ℕ) (At WireRefusal)

abbrev pub ParamsAnswer : Type 0
ParamsAnswer = Result (List Param) (At WireRefusal)

abbrev pub RecordAnswer : Type 0
RecordAnswer = Result Svcb (At WireRefusal)

abbrev pub by_value : Option Param → ℕ → ℕ → ℕ → ParamAnswer
by_value None place key size = refused (place + 4) (BadValue key)
by_value (Some param) place key size = Ok (param, 4 + size)

-- the parameter of a key, a size and the octets behind them
abbrev pub param_by_head : ℕ → ℕ → ℕ → ℕ → List ℕ → ParamAnswer
param_by_head place least key size tail =
    if nat_lt key least then refused place KeyOrder
    else (if nat_lt (length tail) size then refused place ParamPast
    else by_value (read_value key (take size tail)) place key size)

-- the parameter at the front of the octets x, which begin at a place, with a least key
abbrev pub first_param : ℕ → ℕ → List ℕ → ParamAnswer
first_param place least x =
    if nat_lt (length x) 4 then refused (place + length x) Short
    else param_by_head place least (big_number 2 x) (big_number 2 (drop 2 x)) (drop 4 x)

abbrev pub by_param : ParamAnswer → ℕ → List Param → List ℕ → (ℕ → ℕ → List Param → List ℕ → ParamsAnswer) → ParamsAnswer
by_param (Err at) place params x next = Err at
by_param (Ok found) place params x next = next (place + found.1) (suc (key_of found.0)) (params ++ found.0 ∷ []) (drop found.1 x)

-- at most so many parameters more, behind the parameters that were read
abbrev pub params_behind : ℕ → ℕ → ℕ → List Param → List ℕ → ParamsAnswer
params_behind zero place least params [] = Ok params
params_behind zero place least params (b ∷ bs) = refused place Short
params_behind (suc k) place least params [] = Ok params
params_behind (suc k) place least params (b ∷ bs) = by_param (first_param place least (b ∷ bs)) place params (b ∷ bs) (params_behind k)

-- the parameters from a place on
abbrev pub read_params : ℕ → List ℕ → ParamsAnswer
read_params place x = params_behind (length x) place 0 [] x

abbrev pub with_params : ℕ → List (List ℕ) → ParamsAnswer → RecordAnswer
with_params priority target (Ok params) = Ok (record { priority = priority; target = target; params = params })
with_params priority target (Err at) = Err at

-- the target and the place after it
abbrev pub TargetAnswer : Type 0
TargetAnswer = Result (List (List ℕ) × ℕ) (At WireRefusal)

abbrev pub target_by : WireAnswer → TargetAnswer
target_by (Ok answer) = Ok answer
target_by (Err at) = refused at.place BadTarget

abbrev pub read_target : List ℕ → TargetAnswer
read_target x = target_by (read_wire 2 (drop 2 x))

abbrev pub behind_target : ℕ → List ℕ → TargetAnswer → RecordAnswer
behind_target priority x (Ok answer) = with_params priority answer.0 (read_params answer.1 (drop answer.1 x))
behind_target priority x (Err at) = Err at

-- the record of which the octets x are the wire form
abbrev pub read_record : List ℕ → RecordAnswer
read_record x =
    if nat_lt 65535 (length x) then refused 65535 TooLong
    else (if nat_lt (length x) 2 then refused (length x) Short
    else behind_target (big_number 2 x) x (read_target x))
