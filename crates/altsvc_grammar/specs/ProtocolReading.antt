-- Reading the identifier of a protocol (RFC 7838 3, `protocol-id`), a token whose other bytes are percent-encoded.
use Rattle.std.specs.Prelude.{ℕ, ◌+◌, ◌*◌, ◌-◌, Bool, false, ◌&&◌, ◌||◌, not, nat_eq, nat_lt, nat_le, List, [], ◌∷◌, length, Option, None, Some, Result, Ok, if◌then◌else◌}
use Rattle.alt_base.specs.declared.refusal.At.{At}
use Rattle.percent_encoding.specs.Percent.{percent_decode}
use Rattle.altsvc_grammar.specs.Steps.{refused}
use Rattle.altsvc_grammar.specs.Written.{is_plain}
use Rattle.altsvc_grammar.specs.declared.refusal.AltRefusal.{AltRefusal}
use Rattle.altsvc_grammar.specs.declared.refusal.AltRefusal.TheVariants.{BadPercent, BadToken}

abbrev pub is_upper_hex : ℕ → Bool
is_upper_hex b = (nat_le 48 b && nat_le b 57) || (nat_le 65 b && nat_le b 70)

-- the value of a digit, and of an upper-case hex digit
abbrev pub hex_value : ℕ → ℕ
hex_value b = if nat_le b 57 then b - 48 else b - 55

-- whether two upper-case hex digits of a byte that isn't plain stand in front
abbrev pub is_coded : List ℕ → Bool
is_coded [] = false
is_coded (high ∷ []) = false
is_coded (high ∷ low ∷ bs) = is_upper_hex high && (is_upper_hex low && not (is_plain (16 * hex_value high + hex_value low)))

-- whether a `%` that codes no byte stands in front
abbrev pub is_bad_percent : List ℕ → Bool
is_bad_percent [] = false
is_bad_percent (b ∷ bs) = nat_eq b 37 && not (is_coded bs)

-- the place of the first `%` that codes no byte
abbrev pub bad_percent : ℕ → List ℕ → Option ℕ
bad_percent place [] = None
bad_percent place (b ∷ bs) = if is_bad_percent (b ∷ bs) then Some place else bad_percent (place + 1) bs

abbrev pub within_255 : ℕ → List ℕ → Result (List ℕ) (At AltRefusal)
within_255 place proto = if nat_lt 255 (length proto) then refused place BadToken else Ok proto

abbrev pub decoded_unless : ℕ → List ℕ → Option ℕ → Result (List ℕ) (At AltRefusal)
decoded_unless place token None = within_255 place (percent_decode token)
decoded_unless place token (Some bad) = refused bad BadPercent

-- the protocol of a token that stands at this place
abbrev pub read_protocol : ℕ → List ℕ → Result (List ℕ) (At AltRefusal)
read_protocol place token = decoded_unless place token (bad_percent place token)
