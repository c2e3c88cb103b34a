-- The parameters of an alternative (RFC 7838 3.1).
use Rattle.std.specs.Prelude.{◌≡◌, ◌≢◌, ◌⊎◌, ℕ, ◌+◌, List, [], ◌∷◌, ◌++◌, length}
use Rattle.field_text.specs.declared.text_refusal.TextRefusal.{TextRefusal}
use Rattle.field_text.specs.Runs.{AllIn, BeginsIn}
use Rattle.field_text.specs.BlanksGrammar.{is_blank}
use Rattle.field_text.specs.TokenGrammar.{is_token}
use Rattle.field_text.specs.QuotedGrammar.{Part, parts_text, parts_bytes, AreParts, QuotedRefusedAt}

-- a token, or a quoted string of these parts
pub data ParameterValue : Type 0 where
  Token : (bytes : List ℕ) → ParameterValue
  Quoted : (parts : List Part) → ParameterValue

-- its text, before what follows it
abbrev pub value_then : ParameterValue → List ℕ → List ℕ
value_then (Token bytes) w = bytes ++ w
value_then (Quoted parts) w = 34 ∷ (parts_text parts ++ 34 ∷ w)

abbrev pub value_bytes : ParameterValue → List ℕ
value_bytes (Token bytes) = bytes
value_bytes (Quoted parts) = parts_bytes parts

pub record IsToken (text : List ℕ) : Type 0 where
  pub some : text ≢ []
  pub valid : AllIn is_token text

abbrev pub IsParameterValue : ParameterValue → Type 0
IsParameterValue (Token bytes) = IsToken bytes
IsParameterValue (Quoted parts) = AreParts parts

-- a token ends before a byte that is none of its own
abbrev pub EndsValue : ParameterValue → List ℕ → Type 0
EndsValue (Token bytes) w = BeginsIn is_token w → ⊥
EndsValue (Quoted parts) w = Unit {0}

-- blanks, `;`, blanks, a name, `=` and a value
pub record Parameter : Type 0 where
  pub before : List ℕ
  pub after : List ℕ
  pub name : List ℕ
  pub value : ParameterValue

abbrev pub parameter_then : Parameter → List ℕ → List ℕ
parameter_then p w = p.before ++ 59 ∷ (p.after ++ (p.name ++ 61 ∷ value_then p.value w))

pub record IsParameter (p : Parameter) : Type 0 where
  pub before : AllIn is_blank p.before
  pub after : AllIn is_blank p.after
  pub name : IsToken p.name
  pub value : IsParameterValue p.value

abbrev pub parameters_then : List Parameter → List ℕ → List ℕ
parameters_then [] w = w
parameters_then (p ∷ ps) w = parameter_then p (parameters_then ps w)

abbrev pub AreParameters : List Parameter → Type 0
AreParameters [] = Unit {0}
AreParameters (p ∷ ps) = IsParameter p × AreParameters ps

abbrev pub EndsParameters : List Parameter → List ℕ → Type 0
EndsParameters [] w = Unit {0}
EndsParameters (p ∷ []) w = EndsValue p.value w
EndsParameters (p ∷ next ∷ ps) w = EndsParameters (next ∷ ps) w

-- no name stands there
pub record IsNoName (n : ℕ) (z : List ℕ) (q : ℕ) : Type 0 where
  pub no_token : BeginsIn is_token z → ⊥
  pub no_blank : BeginsIn is_blank z → ⊥
  pub place : q + length z ≡ n

-- no `=` follows the name
pub record IsNoValue (n : ℕ) (z : List ℕ) (q : ℕ) : Type 0 where
  pub name : List ℕ
  pub rest : List ℕ
  pub text : z ≡ name ++ rest
  pub is_name : IsToken name
  pub no_token : BeginsIn is_token rest → ⊥
  pub no_equals : (more : List ℕ) → rest ≢ 61 ∷ more
  pub place : q + length rest ≡ n

-- neither a token nor a quoted string follows the `=`
pub record IsBadValue (n : ℕ) (z : List ℕ) (q : ℕ) : Type 0 where
  pub name : List ℕ
  pub rest : List ℕ
  pub p : ℕ
  pub reason : TextRefusal
  pub text : z ≡ name ++ 61 ∷ rest
  pub is_name : IsToken name
  pub no_token : BeginsIn is_token rest → ⊥
  pub from : p + length rest ≡ n
  pub refused : QuotedRefusedAt p rest q reason

-- behind a `;` and blanks no parameter stands; n is the length of the whole text
abbrev pub ParameterRefused : ℕ → List ℕ → ℕ → Type 0
ParameterRefused n z q = IsNoName n z q ⊎ IsNoValue n z q ⊎ IsBadValue n z q
