-- Reading the parameters of an alternative (RFC 7838 3.1), and what they mean together.
use Rattle.std.specs.Prelude.{ℕ, ◌+◌, ◌&&◌, Bool, true, false, nat_eq, zero, suc, List, [], ◌∷◌, codes, Option, None, Some, Result, Ok, Err, if◌then◌else◌}
use Rattle.std.specs.Char.{to_ascii_lowercase}
use Rattle.alt_base.specs.declared.refusal.At.{At}
use Rattle.field_text.specs.declared.text_refusal.TextRefusal.{TextRefusal}
use Rattle.field_text.specs.BlanksReading.{read_blanks, after_blanks}
use Rattle.field_text.specs.TokenReading.{read_token, token_of, after_token}
use Rattle.field_text.specs.QuotedReading.{read_quoted, unquoted, after_quoted}
use Rattle.field_text.specs.DeltaReading.{read_delta_seconds}
use Rattle.altsvc_grammar.specs.Steps.{Step, refused}
use Rattle.altsvc_grammar.specs.declared.refusal.AltRefusal.{AltRefusal}
use Rattle.altsvc_grammar.specs.declared.refusal.AltRefusal.TheVariants.{BadParameter}
use Rattle.altsvc_grammar.specs.declared.given.Given.{Given}
use Rattle.altsvc_grammar.specs.declared.terms.Terms.{Terms}

-- whether a name has these letters, in any case
abbrev pub is_named : List ℕ → List ℕ → Bool
is_named [] [] = true
is_named [] (b ∷ bs) = false
is_named (c ∷ letters) [] = false
is_named (c ∷ letters) (b ∷ bs) = nat_eq (to_ascii_lowercase b) c && is_named letters bs

abbrev pub or_else : {A : Type 0} → A → Option A → A
or_else default None = default
or_else default (Some value) = value

-- the seconds that a value of `ma` says: of digits alone their number, else a day
abbrev pub ma_value : List ℕ → ℕ
ma_value value = or_else 86400 (read_delta_seconds value)

-- whether a value of `persist` is `1`
abbrev pub is_one : List ℕ → Bool
is_one [] = false
is_one (b ∷ []) = nat_eq b 49
is_one (b ∷ c ∷ bs) = false

abbrev pub nothing_given : Given
nothing_given = record { ma = None; persist = None }

-- the first of a name decides
abbrev pub noted : {A : Type 0} → Option A → Bool → A → Option A
noted (Some first) named value = Some first
noted None named value = if named then Some value else None

abbrev pub note : Given → List ℕ → List ℕ → Given
note given name value = record {
  ma = noted given.ma (is_named (codes "ma") name) (ma_value value);
  persist = noted given.persist (is_named (codes "persist") name) (is_one value);
}

abbrev pub terms_of : Given → Terms
terms_of given = record { ma = or_else 86400 given.ma; persist = or_else false given.persist }

-- a parameter's value, which is no token: a quoted string
abbrev pub value_by_quoted : List ℕ → Result ℕ (At TextRefusal) → Result (Step (List ℕ)) (At AltRefusal)
value_by_quoted x (Ok end) = Ok (record { value = unquoted x; place = end; rest = after_quoted x })
value_by_quoted x (Err at) = refused at.place BadParameter

abbrev pub value_by_token : ℕ → List ℕ → Result ℕ (At TextRefusal) → Result (Step (List ℕ)) (At AltRefusal)
value_by_token place x (Ok end) = Ok (record { value = token_of x; place = end; rest = after_token x })
value_by_token place x (Err at) = value_by_quoted x (read_quoted place x)

-- a token, or else a quoted string
abbrev pub read_parameter_value : ℕ → List ℕ → Result (Step (List ℕ)) (At AltRefusal)
read_parameter_value place x = value_by_token place x (read_token place x)

abbrev pub noted_value : Given → List ℕ → Result (Step (List ℕ)) (At AltRefusal) → Result (Step Given) (At AltRefusal)
noted_value given name (Ok step) = Ok (record { value = note given name step.value; place = step.place; rest = step.rest })
noted_value given name (Err at) = Err at

-- what follows a parameter's name
abbrev pub after_parameter_name : Given → List ℕ → ℕ → List ℕ → Result (Step Given) (At AltRefusal)
after_parameter_name given name place [] = refused place BadParameter
after_parameter_name given name place (b ∷ bs) =
    if nat_eq b 61 then noted_value given name (read_parameter_value (place + 1) bs) else refused place BadParameter

abbrev pub parameter_by_token : Given → ℕ → List ℕ → Result ℕ (At TextRefusal) → Result (Step Given) (At AltRefusal)
parameter_by_token given place x (Ok end) = after_parameter_name given (token_of x) end (after_token x)
parameter_by_token given place x (Err at) = refused place BadParameter

-- a name, `=` and a value
abbrev pub read_parameter : Given → ℕ → List ℕ → Result (Step Given) (At AltRefusal)
read_parameter given place x = parameter_by_token given place x (read_token place x)

abbrev pub then_parameters : (Given → ℕ → List ℕ → Result (Step Given) (At AltRefusal)) → Result (Step Given) (At AltRefusal) → Result (Step Given) (At AltRefusal)
then_parameters more (Ok step) = more step.value step.place step.rest
then_parameters more (Err at) = Err at

-- what follows the blanks: a parameter and more of them, or none
abbrev pub parameters_from : (Given → ℕ → List ℕ → Result (Step Given) (At AltRefusal)) → Given → ℕ → List ℕ → Result (Step Given) (At AltRefusal)
parameters_from more given place [] = Ok (record { value = given; place = place; rest = [] })
parameters_from more given place (b ∷ bs) =
    if nat_eq b 59 then then_parameters more (read_parameter given (read_blanks (place + 1) bs) (after_blanks bs))
    else Ok (record { value = given; place = place; rest = b ∷ bs })

-- the parameters, and the blanks behind them; fewer of them than this number
abbrev pub read_parameters : ℕ → Given → ℕ → List ℕ → Result (Step Given) (At AltRefusal)
read_parameters zero given place x = Ok (record { value = given; place = place; rest = x })
read_parameters (suc fewer) given place x = parameters_from (read_parameters fewer) given (read_blanks place x) (after_blanks x)
