-- Reading a name in text, token by token.
use Rattle.std.specs.Prelude.{ℕ, zero, suc, ◌+◌, Bool, false, ◌&&◌, nat_eq, nat_le, nat_lt, if◌then◌else◌, List, [], ◌∷◌, ◌++◌, length, drop, Option, Some, None, Result, Ok}
use Rattle.std.specs.Char.{to_ascii_lowercase, is_ascii_digit, is_ascii_graphic}
use Rattle.alt_base.specs.declared.refusal.At.{At}
use Rattle.dns_names.specs.declared.refusal.NameRefusal.{NameRefusal}
use Rattle.dns_names.specs.declared.refusal.NameRefusal.TheVariants.{LabelTooLong, NameTooLong, EmptyLabel, BadEscape, BadByte}
use Rattle.dns_names.specs.declared.token.Token.{Token}
use Rattle.dns_names.specs.declared.token.Token.TheVariants.{End, Dot, Byte, Stop}
use Rattle.alt_base.specs.Answers.{refused}
use Rattle.dns_names.specs.Names.{labels_octets}
use Rattle.dns_names.specs.TextParts.{decimal_value}

-- the name, or a refusal at a place
abbrev pub TextAnswer : Type 0
TextAnswer = Result (List (List ℕ)) (At NameRefusal)

-- two more digits, and all three of a byte's value
abbrev pub is_decimal : ℕ → ℕ → ℕ → Bool
is_decimal a b c = is_ascii_digit b && (is_ascii_digit c && nat_le (decimal_value a b c) 255)

-- behind a backslash and a digit
abbrev pub decimal_at : ℕ → List ℕ → Token
decimal_at a [] = Stop BadEscape
decimal_at a (b ∷ []) = Stop BadEscape
decimal_at a (b ∷ c ∷ rest) = if is_decimal a b c then Byte (decimal_value a b c) 4 else Stop BadEscape

-- behind a backslash
abbrev pub escape_at : List ℕ → Token
escape_at [] = Stop BadEscape
escape_at (b ∷ rest) = if is_ascii_digit b then decimal_at b rest else (if is_ascii_graphic b then Byte b 2 else Stop BadEscape)

abbrev pub token_at : List ℕ → Token
token_at [] = End
token_at (b ∷ rest) =
    if nat_eq b 46 then Dot
    else (if nat_eq b 92 then escape_at rest
    else (if is_ascii_graphic b then Byte b 1
    else Stop BadByte))

-- why no label of so many bytes may end behind so many octets of a name
abbrev pub label_fault : ℕ → ℕ → Option NameRefusal
label_fault used count =
    if nat_eq count 0 then Some EmptyLabel
    else (if nat_lt 63 count then Some LabelTooLong
    else (if nat_lt 255 (used + 1 + count + 1) then Some NameTooLong
    else None))

abbrev pub by_fault : Option NameRefusal → ℕ → TextAnswer → TextAnswer
by_fault (Some reason) start answer = refused start reason
by_fault None start answer = answer

-- the label that began at a place ends, and then comes the answer
abbrev pub label_ends : List (List ℕ) → List ℕ → ℕ → TextAnswer → TextAnswer
label_ends labels label start answer = by_fault (label_fault (length (labels_octets labels)) (length label)) start answer

-- the text ends, maybe behind a final dot
abbrev pub text_ends : List (List ℕ) → List ℕ → ℕ → TextAnswer
text_ends labels label start = if nat_eq (length label) 0 && nat_lt 0 (length labels) then Ok labels else label_ends labels label start (Ok (labels ++ label ∷ []))

abbrev pub read_by : Token → List (List ℕ) → List ℕ → ℕ → ℕ → List ℕ → (List (List ℕ) → List ℕ → ℕ → ℕ → List ℕ → TextAnswer) → TextAnswer
read_by End labels label start at x next = text_ends labels label start
read_by Dot labels label start at x next = label_ends labels label start (next (labels ++ label ∷ []) [] (at + 1) (at + 1) (drop 1 x))
read_by (Byte byte count) labels label start at x next = next labels (label ++ to_ascii_lowercase byte ∷ []) start (at + count) (drop count x)
read_by (Stop reason) labels label start at x next = refused at reason

-- at most so many tokens more, behind whole labels and the bytes of a label that began at a place
abbrev pub read_tokens : ℕ → List (List ℕ) → List ℕ → ℕ → ℕ → List ℕ → TextAnswer
read_tokens zero labels label start at x = text_ends labels label start
read_tokens (suc k) labels label start at x = read_by (token_at x) labels label start at x (read_tokens k)

-- a dot alone
abbrev pub is_dot : List ℕ → Bool
is_dot [] = false
is_dot (b ∷ []) = nat_eq b 46
is_dot (b ∷ c ∷ rest) = false

-- the name that a text spells
abbrev pub read_text : List ℕ → TextAnswer
read_text x = if is_dot x then Ok [] else read_tokens (length x) [] [] 0 0 x
