-- Reading a value's string, token by token.
use Rattle.std.specs.Prelude.{ℕ, zero, suc, ◌+◌, Bool, true, false, ◌&&◌, nat_eq, if◌then◌else◌, List, [], ◌∷◌, ◌++◌, length, drop, Result, Ok, Err}
use Rattle.std.specs.Char.{is_ascii_digit}
use Rattle.alt_base.specs.Classes.{contiguous_value_class, quoted_value_class}
use Rattle.field_text.specs.BlanksGrammar.{is_blank}
use Rattle.dns_names.specs.TextParts.{decimal_value}
use Rattle.dns_names.specs.TextReading.{is_decimal}
use Rattle.svcb_values.specs.declared.token.Style.{Style}
use Rattle.svcb_values.specs.declared.token.Style.TheVariants.{Contiguous, InQuotes}
use Rattle.svcb_values.specs.declared.token.Token.{Token}
use Rattle.svcb_values.specs.declared.token.Token.TheVariants as token
use Rattle.svcb_values.specs.declared.unescaped.Unescaped.{Unescaped}
use Rattle.svcb_values.specs.StringGrammar.{is_raw, is_escapable}

-- the class of the bytes that stand for themselves
abbrev pub raw_class : Style → List (ℕ × ℕ)
raw_class Contiguous = contiguous_value_class
raw_class InQuotes = quoted_value_class

-- behind a backslash and a digit
abbrev pub decimal_at : ℕ → List ℕ → Token
decimal_at a [] = token.Wrong
decimal_at a (b ∷ []) = token.Wrong
decimal_at a (b ∷ c ∷ rest) = if is_decimal a b c then token.Escaped (decimal_value a b c) 4 else token.Wrong

-- behind a backslash
abbrev pub escape_at : Style → List ℕ → Token
escape_at style [] = token.Wrong
escape_at style (b ∷ rest) = if is_ascii_digit b then decimal_at b rest else (if is_escapable style b then token.Escaped b 2 else token.Wrong)

-- whether a byte ends a string
abbrev pub is_end : Style → ℕ → Bool
is_end Contiguous b = is_blank b
is_end InQuotes b = nat_eq b 34

-- where the text ends, a string that isn't between quotes does
abbrev pub token_at_end : Style → Token
token_at_end Contiguous = token.End
token_at_end InQuotes = token.Wrong

abbrev pub token_at : Style → List ℕ → Token
token_at style [] = token_at_end style
token_at style (b ∷ rest) =
    if is_end style b then token.End
    else (if nat_eq b 92 then escape_at style rest
    else (if is_raw style b then token.Raw b
    else token.Wrong))

-- a string's value and how many bytes it takes, or the place of what is wrong, counted from its front
abbrev pub StringAnswer : Type 0
StringAnswer = Result (Unescaped × ℕ) ℕ

-- behind a string stands a blank or the end
abbrev pub with_end : Unescaped → ℕ → List ℕ → StringAnswer
with_end value count [] = Ok (value, count)
with_end value count (b ∷ bs) = if is_blank b then Ok (value, count) else Err count

-- the closing quote belongs to the string
abbrev pub string_ends : Style → Unescaped → ℕ → List ℕ → StringAnswer
string_ends Contiguous value count x = Ok (value, count)
string_ends InQuotes value count x = with_end value (count + 1) (drop 1 x)

abbrev pub with_byte : Unescaped → ℕ → Bool → Unescaped
with_byte value byte raw = record { bytes = value.bytes ++ byte ∷ []; plain = value.plain && raw }

abbrev pub read_by : Token → Style → Unescaped → ℕ → List ℕ → (Unescaped → ℕ → List ℕ → StringAnswer) → StringAnswer
read_by token.End style value count x next = string_ends style value count x
read_by (token.Raw byte) style value count x next = next (with_byte value byte true) (count + 1) (drop 1 x)
read_by (token.Escaped byte size) style value count x next = next (with_byte value byte false) (count + size) (drop size x)
read_by token.Wrong style value count x next = Err count

-- at most so many tokens, behind a value of so many bytes
abbrev pub read_tokens : ℕ → Style → Unescaped → ℕ → List ℕ → StringAnswer
read_tokens zero style value count x = Err count
read_tokens (suc k) style value count x = read_by (token_at style x) style value count x (read_tokens k style)

abbrev pub no_bytes : Unescaped
no_bytes = record { bytes = []; plain = true }

-- the string at the front of a text
abbrev pub read_string : List ℕ → StringAnswer
read_string [] = Ok (no_bytes, 0)
read_string (b ∷ bs) =
    if nat_eq b 34 then read_tokens (suc (length bs)) InQuotes no_bytes 1 bs
    else read_tokens (suc (suc (length bs))) Contiguous no_bytes 0 (b ∷ bs)
