-- A record in text (RFC 9460 2.1): a priority, a target and parameters, with blanks between.
use Rattle.std.specs.Prelude.{◌≡◌, ◌≢◌, ◌≤◌, ◌<◌, ◌⊎◌, ℕ, true, List, [], ◌∷◌, ◌++◌, length}
use Rattle.std.specs.Str.Parse.{IsNumeral, digits_value}
use Rattle.field_text.specs.BlanksGrammar.{is_blank}
use Rattle.field_text.specs.Runs.{AllIn}
use Rattle.dns_names.specs.TextParts.{Part}
use Rattle.dns_names.specs.TextGrammar.{SpellsText}
use Rattle.svcb_wire.specs.declared.param.Param.{Param}
use Rattle.svcb_wire.specs.declared.svcb.Svcb.{Svcb}
use Rattle.svcb_wire.specs.Octets.{key_of}
use Rattle.svcb_wire.specs.Records.{record_octets}
use Rattle.svcb_wire.specs.Usable.{is_consistent}
use Rattle.svcb_values.specs.declared.token.Style.{Style}
use Rattle.svcb_values.specs.declared.unescaped.Unescaped.{Unescaped}
use Rattle.svcb_values.specs.KeyNames.{key_name}
use Rattle.svcb_values.specs.StringGrammar.{AreParts, string_text, meant}
use Rattle.svcb_values.specs.ValueGrammar.{SpellsValue}
use Rattle.svcb_values.specs.KeyOrder.{AreDistinct, IsOrderOf}
use Rattle.svcb_text.specs.ParamOrder.{keys_of}

-- a key alone, or a key, `=` and a string
pub data GivenParam : Type 0 where
  Alone : (key : ℕ) → GivenParam
  Valued : (key : ℕ) (style : Style) (parts : List Part) → GivenParam

abbrev pub given_key : GivenParam → ℕ
given_key (Alone key) = key
given_key (Valued key style parts) = key

-- the key's name and what stands up to the value
abbrev pub given_head : GivenParam → List ℕ
given_head (Alone key) = key_name key
given_head (Valued key style parts) = key_name key ++ 61 ∷ []

abbrev pub given_string : GivenParam → List ℕ
given_string (Alone key) = []
given_string (Valued key style parts) = string_text style parts

-- an absent value is the empty one
abbrev pub given_value : GivenParam → Unescaped
given_value (Alone key) = meant []
given_value (Valued key style parts) = meant parts

abbrev pub AreGivenParts : GivenParam → Type 0
AreGivenParts (Alone key) = Unit {0}
AreGivenParts (Valued key style parts) = AreParts style parts

pub record IsGiven (given : GivenParam) : Type 0 where
  pub key : given_key given < 65536
  pub parts : AreGivenParts given

-- blanks, at least one
pub record AreBlanks (blanks : List ℕ) : Type 0 where
  pub some : blanks ≢ []
  pub all : AllIn is_blank blanks

-- blanks and a parameter
pub record Spaced : Type 0 where
  pub blanks : List ℕ
  pub given : GivenParam

abbrev pub spaced_text : Spaced → List ℕ
spaced_text s = s.blanks ++ (given_head s.given ++ given_string s.given)

abbrev pub spaced_texts : List Spaced → List ℕ
spaced_texts [] = []
spaced_texts (s ∷ ss) = spaced_text s ++ spaced_texts ss

-- a given parameter whose string stands for this one
pub record SpellsParam (s : Spaced) (param : Param) : Type 0 where
  pub blanks : AreBlanks s.blanks
  pub given : IsGiven s.given
  pub value : SpellsValue (given_key s.given) (given_value s.given) param

abbrev pub SpellEach : List Spaced → List Param → Type 0
SpellEach [] [] = Unit {0}
SpellEach (s ∷ ss) (param ∷ params) = SpellsParam s param × SpellEach ss params
SpellEach _ _ = ⊥

-- digits of a number of at most 65535
pub record SpellsPriority (digits : List ℕ) (priority : ℕ) : Type 0 where
  pub numeral : IsNumeral 10 digits
  pub value : priority ≡ digits_value 10 digits
  pub most : priority ≤ 65535

-- blanks, a priority, blanks and a target
pub record Front : Type 0 where
  pub before : List ℕ
  pub digits : List ℕ
  pub between : List ℕ
  pub target : List ℕ

abbrev pub front_text : Front → List ℕ
front_text f = f.before ++ (f.digits ++ (f.between ++ f.target))

pub record SpellsFront (f : Front) (priority : ℕ) (name : List (List ℕ)) : Type 0 where
  pub before : AllIn is_blank f.before
  pub number : SpellsPriority f.digits priority
  pub between : AreBlanks f.between
  pub named : SpellsText f.target name

-- a text of a record's form, with at most 65,535 bytes and no key twice
pub record HasForm (x : List ℕ) (value : Svcb) : Type 0 where
  pub front : Front
  pub spaced : List Spaced
  pub params : List Param
  pub behind : List ℕ
  pub text : x ≡ front_text front ++ (spaced_texts spaced ++ behind)
  pub begins : SpellsFront front value.priority value.target
  pub each : SpellEach spaced params
  pub blanks : AllIn is_blank behind
  pub distinct : AreDistinct (keys_of params)
  pub order : IsOrderOf key_of params value.params
  pub short : length x ≤ 65535

-- only AliasMode records may be inconsistent (RFC 9460 8 and 2.4.2)
abbrev pub IsAllowed : Svcb → Type 0
IsAllowed value = (value.priority ≡ 0) ⊎ (is_consistent value ≡ true)

pub record SpellsRecordText (x : List ℕ) (value : Svcb) : Type 0 where
  pub form : HasForm x value
  pub allowed : IsAllowed value
  pub sized : length (record_octets value) ≤ 65535
