-- The refusals of a record's text, with their places. The order is from left to right, and for one parameter that of the
-- table; a text that is too long comes first, and what concerns the whole record comes last.
use Rattle.std.specs.Prelude.{◌≡◌, ◌≢◌, ◌≤◌, ◌<◌, ◌⊎◌, ℕ, ◌+◌, true, not, List, [], ◌∷◌, ◌++◌, length}
use Rattle.field_text.specs.BlanksGrammar.{is_blank}
use Rattle.field_text.specs.Runs.{AllIn, BeginsIn}
use Rattle.field_text.specs.OneReading.{OneReading}
use Rattle.dns_names.specs.declared.refusal.NameRefusal.{NameRefusal}
use Rattle.dns_names.specs.TextGrammar.{TextRefusedAt}
use Rattle.svcb_wire.specs.declared.param.Param.{Param}
use Rattle.svcb_wire.specs.declared.svcb.Svcb.{Svcb}
use Rattle.svcb_wire.specs.Records.{record_octets}
use Rattle.svcb_text.specs.declared.refusal.RecordTextRefusal.{RecordTextRefusal}
use Rattle.svcb_text.specs.declared.refusal.RecordTextRefusal.TheVariants.{BadPriority, BadTarget, BadKey, RepeatedKey, BadString, BadValue, Inconsistent, TooLong}
use Rattle.svcb_values.specs.KeyNames.{key_name}
use Rattle.svcb_values.specs.StringGrammar.{EndsItem, StringRefusedAt}
use Rattle.svcb_values.specs.ValueGrammar.{SpellsValue}
use Rattle.svcb_values.specs.KeyOrder.{IsNew, AreDistinct}
use Rattle.svcb_text.specs.ParamOrder.{keys_of}
use Rattle.svcb_text.specs.TextGrammar.{GivenParam, given_key, given_head, given_string, given_value, IsGiven, AreBlanks, Spaced, spaced_texts, SpellEach, SpellsPriority, Front, front_text, SpellsFront, HasForm, IsAllowed, SpellsRecordText}

-- an item, maybe none, and what stands behind it
pub record IsItem (x item rest : List ℕ) : Type 0 where
  pub text : x ≡ item ++ rest
  pub no_blank : AllIn (λ b. not (is_blank b)) item
  pub ends : EndsItem rest

-- behind blanks no priority stands
pub record IsBadPriority (x : List ℕ) (q : ℕ) : Type 0 where
  pub before : List ℕ
  pub y : List ℕ
  pub item : List ℕ
  pub rest : List ℕ
  pub text : x ≡ before ++ y
  pub blanks : AllIn is_blank before
  pub no_blank : BeginsIn is_blank y → ⊥
  pub is_item : IsItem y item rest
  pub bad : (priority : ℕ) → SpellsPriority item priority → ⊥
  pub place : q ≡ length before

-- behind a priority and blanks no target stands
pub record IsBadTarget (x : List ℕ) (q : ℕ) : Type 0 where
  pub before : List ℕ
  pub digits : List ℕ
  pub between : List ℕ
  pub y : List ℕ
  pub item : List ℕ
  pub rest : List ℕ
  pub priority : ℕ
  pub at : ℕ
  pub reason : NameRefusal
  pub text : x ≡ before ++ (digits ++ (between ++ y))
  pub blanks : AllIn is_blank before
  pub number : SpellsPriority digits priority
  pub blanks_between : AllIn is_blank between
  pub number_ends : EndsItem (between ++ y)
  pub no_blank : BeginsIn is_blank y → ⊥
  pub is_item : IsItem y item rest
  pub refused : TextRefusedAt item at reason
  pub place : q ≡ length before + length digits + length between + at

-- behind a priority, a target, these parameters and blanks the text goes on with a rest, which begins with no blank
pub record GoesOn (x : List ℕ) (params : List Param) (rest : List ℕ) (place : ℕ) : Type 0 where
  pub front : Front
  pub priority : ℕ
  pub name : List (List ℕ)
  pub spaced : List Spaced
  pub blanks : List ℕ
  pub text : x ≡ front_text front ++ (spaced_texts spaced ++ (blanks ++ rest))
  pub begins : SpellsFront front priority name
  pub each : SpellEach spaced params
  pub distinct : AreDistinct (keys_of params)
  pub are_blanks : AreBlanks blanks
  pub some : rest ≢ []
  pub no_blank : BeginsIn is_blank rest → ⊥
  pub behind : place ≡ length (front_text front) + length (spaced_texts spaced) + length blanks

-- what may follow a key: `=`, a blank or the end
abbrev pub EndsKey : List ℕ → Type 0
EndsKey [] = Unit {0}
EndsKey (b ∷ bs) = (b ≡ 61) ⊎ (is_blank b ≡ true)

-- no key stands there
pub record IsBadKey (x : List ℕ) (q : ℕ) : Type 0 where
  pub params : List Param
  pub rest : List ℕ
  pub goes : GoesOn x params rest q
  pub bad : (key : ℕ) (more : List ℕ) → key < 65536 → rest ≡ key_name key ++ more → EndsKey more → ⊥

-- a key that came before
pub record IsRepeatedKey (x : List ℕ) (q : ℕ) : Type 0 where
  pub params : List Param
  pub key : ℕ
  pub more : List ℕ
  pub goes : GoesOn x params (key_name key ++ more) q
  pub fits : key < 65536
  pub ends : EndsKey more
  pub repeated : IsNew key (keys_of params) → ⊥

-- behind a new key and `=` no string stands
pub record IsBadString (x : List ℕ) (q : ℕ) : Type 0 where
  pub params : List Param
  pub key : ℕ
  pub more : List ℕ
  pub place : ℕ
  pub at : ℕ
  pub goes : GoesOn x params (key_name key ++ 61 ∷ more) place
  pub fits : key < 65536
  pub is_new : IsNew key (keys_of params)
  pub refused : StringRefusedAt more at
  pub wrong : q ≡ place + length (key_name key) + 1 + at

-- a new key's string stands for no value of the key's form
pub record IsBadValue (x : List ℕ) (q key : ℕ) : Type 0 where
  pub params : List Param
  pub given : GivenParam
  pub more : List ℕ
  pub place : ℕ
  pub goes : GoesOn x params (given_head given ++ (given_string given ++ more)) place
  pub is_given : IsGiven given
  pub ends : EndsItem more
  pub of_key : given_key given ≡ key
  pub is_new : IsNew key (keys_of params)
  pub bad : (param : Param) → SpellsValue key (given_value given) param → ⊥
  pub first : q ≡ place + length (given_head given)

-- a text of a record's form that lacks what its parameters need
pub record IsInconsistent (x : List ℕ) (q : ℕ) : Type 0 where
  pub value : Svcb
  pub form : HasForm x value
  pub bad : IsAllowed value → ⊥
  pub place : q ≡ length x

-- a text of more than 65,535 bytes, or of a record whose RDATA has more octets
pub record IsLongRecord (x : List ℕ) (q : ℕ) : Type 0 where
  pub value : Svcb
  pub form : HasForm x value
  pub allowed : IsAllowed value
  pub long : 65535 < length (record_octets value)
  pub place : q ≡ length x

abbrev pub IsLongText : List ℕ → ℕ → Type 0
IsLongText x q = (65535 < length x) × (q ≡ 65535)

-- a refusal of a text that isn't too long
abbrev pub Within : List ℕ → Type 0 → Type 0
Within x Refused = (length x ≤ 65535) × Refused

-- the table of refusals
abbrev pub RecordTextRefusedAt : List ℕ → ℕ → RecordTextRefusal → Type 0
RecordTextRefusedAt x q BadPriority = Within x (IsBadPriority x q)
RecordTextRefusedAt x q BadTarget = Within x (IsBadTarget x q)
RecordTextRefusedAt x q BadKey = Within x (IsBadKey x q)
RecordTextRefusedAt x q RepeatedKey = Within x (IsRepeatedKey x q)
RecordTextRefusedAt x q BadString = Within x (IsBadString x q)
RecordTextRefusedAt x q (BadValue key) = Within x (IsBadValue x q key)
RecordTextRefusedAt x q Inconsistent = IsInconsistent x q
RecordTextRefusedAt x q TooLong = IsLongText x q ⊎ IsLongRecord x q

-- exactly one record or exactly one refusal, and never both
abbrev pub OneRecordText : List ℕ → Type 0
OneRecordText x = OneReading Svcb RecordTextRefusal (SpellsRecordText x) (RecordTextRefusedAt x)
