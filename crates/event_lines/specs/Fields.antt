-- Reading each kind of field.
use Rattle.std.specs.Prelude.{ℕ, Bool, false, not, ◌&&◌, nat_eq, nat_le, nat_lt, List, [], ◌∷◌, length, codes, Option, Some, None, Result, Ok, Err, if◌then◌else◌}
use Rattle.std.specs.Option.{option_and_then}
use Rattle.std.specs.List.{list_all}
use Rattle.std.specs.Char.{is_ascii_digit}
use Rattle.std.specs.Cmp.Lexicographic.{pointwise}
use Rattle.std.specs.Str.Parse.{digits_value}
use Rattle.dns_names.specs.TextReading.{read_text}
use Rattle.origin_values.specs.OriginReading.{read_origin}
use Rattle.origin_values.specs.declared.origin.Origin.{Origin}
use Rattle.origin_values.specs.declared.proto.Proto.{Proto}
use Rattle.origin_values.specs.declared.proto.Proto.TheVariants.{H2, H3, Http11, Other}
use Rattle.coalescing.specs.NamesReading.{read_names}
use Rattle.coalescing.specs.declared.cert_name.CertName.{CertName}
use Rattle.hex.specs.Hex.{decode_of}
use Rattle.event_lines.specs.Limits.{most_port, most_status}
use Rattle.event_lines.specs.declared.answer_kind.AnswerKind.{AnswerKind}
use Rattle.event_lines.specs.declared.answer_kind.AnswerKind.TheVariants.{Ipv4, Ipv6, Https}

-- digits, at least one, and no zero before others
abbrev pub is_number : List ℕ → Bool
is_number [] = false
is_number (b ∷ []) = is_ascii_digit b
is_number (b ∷ c ∷ bs) = not (nat_eq b 48) && list_all is_ascii_digit (b ∷ c ∷ bs)

-- a value that is at most so great
abbrev pub number_within : ℕ → ℕ → Option ℕ
number_within most n = if nat_le n most then Some n else None

abbrev pub number_of : ℕ → List ℕ → Option ℕ
number_of most text = if is_number text then number_within most (digits_value 10 text) else None

abbrev pub unless_zero : ℕ → Option ℕ
unless_zero n = if nat_lt 0 n then Some n else None

abbrev pub port_of : List ℕ → Option ℕ
port_of text = option_and_then unless_zero (number_of most_port text)

-- a status of a final response (RFC 9110 15)
abbrev pub final_status : ℕ → Option ℕ
final_status n = if nat_le 200 n then Some n else None

-- three digits
abbrev pub status_of : List ℕ → Option ℕ
status_of text = if nat_eq (length text) 3 then option_and_then final_status (number_of most_status text) else None

abbrev pub proto_of : List ℕ → Option Proto
proto_of text =
    if pointwise nat_eq text (codes "h2") then Some H2
    else (if pointwise nat_eq text (codes "h3") then Some H3
    else (if pointwise nat_eq text (codes "http/1.1") then Some Http11
    else (if pointwise nat_eq text (codes "other") then Some Other else None)))

-- the value, whatever the refusal
abbrev pub value_of : {A E : Type 0} → Result A E → Option A
value_of (Ok value) = Some value
value_of (Err refusal) = None

abbrev pub origin_of : List ℕ → Option Origin
origin_of text = value_of (read_origin text)

abbrev pub names_of : List ℕ → Option (List CertName)
names_of text = value_of (read_names text)

-- a name of the domain name system (RFC 1035 5.1)
abbrev pub dns_name_of : List ℕ → Option (List (List ℕ))
dns_name_of text = value_of (read_text text)

abbrev pub answer_kind_of : List ℕ → Option AnswerKind
answer_kind_of text =
    if pointwise nat_eq text (codes "a") then Some Ipv4
    else (if pointwise nat_eq text (codes "aaaa") then Some Ipv6
    else (if pointwise nat_eq text (codes "https") then Some Https else None))

-- the octets of hex digits, at least one
abbrev pub octets_of : List ℕ → Option (List ℕ)
octets_of [] = None
octets_of (b ∷ bs) = value_of (decode_of (b ∷ bs))
