-- Reading a record's text, item by item.
use Rattle.std.specs.Prelude.{ℕ, zero, suc, ◌+◌, Bool, ◌||◌, not, nat_eq, nat_le, nat_lt, if◌then◌else◌, List, [], ◌∷◌, length, drop, Option, Some, None, Result, Ok, Err}
use Rattle.field_text.specs.BlanksGrammar.{is_blank}
use Rattle.field_text.specs.BlanksReading.{read_blanks, after_blanks}
use Rattle.field_text.specs.DeltaReading.{read_delta_seconds}
use Rattle.field_text.specs.Runs.{run_of, after_run}
use Rattle.dns_names.specs.TextReading.{TextAnswer, read_text}
use Rattle.alt_base.specs.declared.refusal.At.{At}
use Rattle.svcb_wire.specs.declared.param.Param.{Param}
use Rattle.svcb_wire.specs.declared.svcb.Svcb.{Svcb}
use Rattle.svcb_wire.specs.Records.{record_octets}
use Rattle.svcb_wire.specs.Usable.{is_consistent, has_key}
use Rattle.svcb_text.specs.declared.refusal.RecordTextRefusal.{RecordTextRefusal}
use Rattle.svcb_text.specs.declared.refusal.RecordTextRefusal.TheVariants.{BadPriority, BadTarget, BadKey, RepeatedKey, BadString, BadValue, Inconsistent, TooLong}
use Rattle.alt_base.specs.Answers.{refused}
use Rattle.svcb_values.specs.KeyNames.{is_key_byte, key_named}
use Rattle.svcb_values.specs.StringReading.{StringAnswer, read_string, no_bytes}
use Rattle.svcb_values.specs.ValueReading.{read_value}
use Rattle.svcb_text.specs.Placing.{placed}

-- a parameter and how many bytes it takes, or a refusal at a place
abbrev pub ParamAnswer : Type 0
ParamAnswer = Result (Param × ℕ) (At RecordTextRefusal)

abbrev pub ParamsAnswer : Type 0
ParamsAnswer = Result (List Param) (At RecordTextRefusal)

abbrev pub RecordAnswer : Type 0
RecordAnswer = Result Svcb (At RecordTextRefusal)

-- the parameter of a key, whose value begins at a place, takes so many bytes with its key
abbrev pub by_value : Option Param → ℕ → ℕ → ℕ → ParamAnswer
by_value None place key count = refused place (BadValue key)
by_value (Some param) place key count = Ok (param, count)

-- the value's string, behind so many bytes of the parameter; it begins at a place
abbrev pub by_string : StringAnswer → ℕ → ℕ → ℕ → ParamAnswer
by_string (Ok found) place key count = by_value (read_value key found.0) place key (count + found.1)
by_string (Err at) place key count = refused (place + at) BadString

-- a new key, of so many bytes, and what follows it
abbrev pub behind_key : ℕ → ℕ → ℕ → List ℕ → ParamAnswer
behind_key place key count [] = by_value (read_value key no_bytes) (place + count) key count
behind_key place key count (b ∷ bs) =
    if nat_eq b 61 then by_string (read_string bs) (place + count + 1) key (count + 1)
    else by_value (read_value key no_bytes) (place + count) key count

-- whether a key may end before this
abbrev pub ends_key : List ℕ → Bool
ends_key [] = nat_eq 0 0
ends_key (b ∷ bs) = nat_eq b 61 || is_blank b

abbrev pub by_key : Option ℕ → List Param → ℕ → ℕ → List ℕ → ParamAnswer
by_key None params place count rest = refused place BadKey
by_key (Some key) params place count rest =
    if ends_key rest then (if has_key key params then refused place RepeatedKey else behind_key place key count rest)
    else refused place BadKey

-- the parameter at the front of a text, which begins at a place, beside those that were read
abbrev pub first_param : List Param → ℕ → List ℕ → ParamAnswer
first_param params place x = by_key (key_named (run_of is_key_byte x)) params place (length (run_of is_key_byte x)) (after_run is_key_byte x)

abbrev pub by_param : ParamAnswer → List Param → ℕ → List ℕ → (List Param → ℕ → List ℕ → ParamsAnswer) → ParamsAnswer
by_param (Err at) params place x next = Err at
by_param (Ok found) params place x next = next (placed found.0 params) (place + found.1) (drop found.1 x)

abbrev pub params_from : (List Param → ℕ → List ℕ → ParamsAnswer) → List Param → ℕ → List ℕ → ParamsAnswer
params_from next params place [] = Ok params
params_from next params place (b ∷ bs) = by_param (first_param params place (b ∷ bs)) params place (b ∷ bs) next

-- at most so many parameters, beside those that were read
abbrev pub params_behind : ℕ → List Param → ℕ → List ℕ → ParamsAnswer
params_behind zero params place x = Ok params
params_behind (suc k) params place x = params_from (params_behind k) params (read_blanks place x) (after_blanks x)

abbrev pub read_params : ℕ → List ℕ → ParamsAnswer
read_params place x = params_behind (suc (length x)) [] place x

-- what concerns the whole record; the text has so many bytes
abbrev pub finish : ℕ → Svcb → RecordAnswer
finish size value =
    if nat_eq value.priority 0 || is_consistent value
    then (if nat_lt 65535 (length (record_octets value)) then refused size TooLong else Ok value)
    else refused size Inconsistent

abbrev pub with_params : ℕ → ℕ → List (List ℕ) → ParamsAnswer → RecordAnswer
with_params size priority target (Ok params) = finish size (record { priority = priority; target = target; params = params })
with_params size priority target (Err at) = Err at

-- the bytes up to a blank
abbrev pub item_of : List ℕ → List ℕ
item_of x = run_of (λ b. not (is_blank b)) x

abbrev pub after_item : List ℕ → List ℕ
after_item x = after_run (λ b. not (is_blank b)) x

-- the item that begins at a place is the target, and the parameters stand behind it
abbrev pub by_target : TextAnswer → ℕ → ℕ → ℕ → List ℕ → RecordAnswer
by_target (Ok target) size priority place x = with_params size priority target (read_params (place + length (item_of x)) (after_item x))
by_target (Err at) size priority place x = refused (place + at.place) BadTarget

abbrev pub behind_priority : ℕ → ℕ → ℕ → List ℕ → RecordAnswer
behind_priority size priority place x = by_target (read_text (item_of x)) size priority place x

-- a number of at most 65535
abbrev pub priority_of : Option ℕ → Option ℕ
priority_of None = None
priority_of (Some number) = if nat_le number 65535 then Some number else None

abbrev pub by_priority : Option ℕ → ℕ → ℕ → List ℕ → RecordAnswer
by_priority None size place x = refused place BadPriority
by_priority (Some priority) size place x =
    behind_priority size priority (read_blanks (place + length (item_of x)) (after_item x)) (after_blanks (after_item x))

abbrev pub from_priority : ℕ → ℕ → List ℕ → RecordAnswer
from_priority size place x = by_priority (priority_of (read_delta_seconds (item_of x))) size place x

-- the record that a text spells
abbrev pub read_record_text : List ℕ → RecordAnswer
read_record_text x =
    if nat_lt 65535 (length x) then refused 65535 TooLong
    else from_priority (length x) (read_blanks 0 x) (after_blanks x)
