-- The strings of values (RFC 9460 2.1 and appendix A), by how a text splits, and their refusals with their places.
use Rattle.std.specs.Prelude.{◌≡◌, ◌≢◌, ◌≤◌, ◌⊎◌, ℕ, ◌+◌, Bool, true, false, ◌||◌, List, [], ◌∷◌, ◌++◌, length, map}
use Rattle.std.specs.List.{list_all}
use Rattle.std.specs.Char.{is_ascii_digit, is_ascii_graphic}
use Rattle.alt_base.specs.Classes.{in_ranges, contiguous_value_class, quoted_value_class}
use Rattle.field_text.specs.BlanksGrammar.{is_blank}
use Rattle.dns_names.specs.TextParts.{Part, Raw, Quoted, Decimal, decimal_value, part_byte, part_text, parts_text}
use Rattle.svcb_values.specs.declared.token.Style.{Style}
use Rattle.svcb_values.specs.declared.token.Style.TheVariants.{Contiguous, InQuotes}
use Rattle.svcb_values.specs.declared.unescaped.Unescaped.{Unescaped}

-- the bytes that stand for themselves
abbrev pub is_raw : Style → ℕ → Bool
is_raw Contiguous b = in_ranges contiguous_value_class b
is_raw InQuotes b = in_ranges quoted_value_class b

-- the bytes that a backslash may stand before: shown ones, and between quotes blanks
abbrev pub is_escapable : Style → ℕ → Bool
is_escapable Contiguous b = is_ascii_graphic b
is_escapable InQuotes b = is_ascii_graphic b || is_blank b

-- a byte that stands for itself; behind a backslash a byte that is no digit, or three digits of a byte's value
abbrev pub IsPart : Style → Part → Type 0
IsPart style (Raw b) = is_raw style b ≡ true
IsPart style (Quoted b) = (is_escapable style b ≡ true) × (is_ascii_digit b ≡ false)
IsPart style (Decimal a b c) = (is_ascii_digit a ≡ true) × (is_ascii_digit b ≡ true) × (is_ascii_digit c ≡ true) × (decimal_value a b c ≤ 255)

abbrev pub AreParts : Style → List Part → Type 0
AreParts style [] = Unit {0}
AreParts style (part ∷ parts) = IsPart style part × AreParts style parts

-- what stands before the parts of a string, and behind them
abbrev pub opening : Style → List ℕ
opening Contiguous = []
opening InQuotes = 34 ∷ []

abbrev pub string_text : Style → List Part → List ℕ
string_text style parts = opening style ++ (parts_text parts ++ opening style)

-- no backslash
abbrev pub is_raw_part : Part → Bool
is_raw_part (Raw b) = true
is_raw_part (Quoted b) = false
is_raw_part (Decimal a b c) = false

abbrev pub meant : List Part → Unescaped
meant parts = record { bytes = map part_byte parts; plain = list_all is_raw_part parts }

-- a blank or the end
abbrev pub EndsItem : List ℕ → Type 0
EndsItem [] = Unit {0}
EndsItem (b ∷ bs) = is_blank b ≡ true

-- at the front of a text a string of so many bytes stands for this value, and a blank or the end follows
pub record SpellsString (x : List ℕ) (value : Unescaped) (count : ℕ) : Type 0 where
  pub style : Style
  pub parts : List Part
  pub rest : List ℕ
  pub valid : AreParts style parts
  pub text : x ≡ string_text style parts ++ rest
  pub ends : EndsItem rest
  pub means : value ≡ meant parts
  pub size : count ≡ length (string_text style parts)

-- a string stands between quotes exactly where it begins with one
abbrev pub BeginsStyle : Style → List ℕ → Type 0
BeginsStyle style [] = style ≡ Contiguous
BeginsStyle Contiguous (b ∷ bs) = b ≢ 34
BeginsStyle InQuotes (b ∷ bs) = b ≡ 34

-- behind some parts of a string the text goes on with a rest, before which so many bytes stand
pub record StringGoesOn (x : List ℕ) (style : Style) (rest : List ℕ) (count : ℕ) : Type 0 where
  pub parts : List Part
  pub valid : AreParts style parts
  pub begins : BeginsStyle style x
  pub text : x ≡ opening style ++ (parts_text parts ++ rest)
  pub size : count ≡ length (opening style) + length (parts_text parts)

-- a byte that ends no string of this style
abbrev pub EndsNone : Style → ℕ → Type 0
EndsNone Contiguous b = is_blank b ≡ false
EndsNone InQuotes b = b ≢ 34

-- a byte that is neither a part, nor a backslash, nor the end
pub record IsWrongByte (x : List ℕ) (q : ℕ) : Type 0 where
  pub style : Style
  pub byte : ℕ
  pub rest : List ℕ
  pub goes : StringGoesOn x style (byte ∷ rest) q
  pub no_backslash : byte ≢ 92
  pub no_end : EndsNone style byte
  pub bad : is_raw style byte ≡ false

-- a backslash that begins no part
pub record IsWrongEscape (x : List ℕ) (q : ℕ) : Type 0 where
  pub style : Style
  pub rest : List ℕ
  pub goes : StringGoesOn x style (92 ∷ rest) q
  pub bad : (part : Part) (more : List ℕ) → IsPart style part → 92 ∷ rest ≡ part_text part ++ more → ⊥

-- no closing quote
abbrev pub IsOpenQuote : List ℕ → ℕ → Type 0
IsOpenQuote x q = StringGoesOn x InQuotes [] q

-- a byte that is no blank behind the closing quote, which stands just before it
pub record IsByteBehindQuote (x : List ℕ) (q : ℕ) : Type 0 where
  pub byte : ℕ
  pub rest : List ℕ
  pub quote : ℕ
  pub goes : StringGoesOn x InQuotes (34 ∷ byte ∷ rest) quote
  pub no_blank : is_blank byte ≡ false
  pub place : q ≡ quote + 1

-- the text begins with no string; the place is counted from its front
abbrev pub StringRefusedAt : List ℕ → ℕ → Type 0
StringRefusedAt x q = IsWrongByte x q ⊎ IsWrongEscape x q ⊎ IsOpenQuote x q ⊎ IsByteBehindQuote x q

-- exactly one string or exactly one refusal, and never both
pub record OneString (x : List ℕ) : Type 0 where
  pub some : ((value : Unescaped) × (count : ℕ) × SpellsString x value count) ⊎ ((q : ℕ) × StringRefusedAt x q)
  pub one_value : (value value' : Unescaped) (count count' : ℕ) → SpellsString x value count → SpellsString x value' count' → (value ≡ value') × (count ≡ count')
  pub one_place : (q q' : ℕ) → StringRefusedAt x q → StringRefusedAt x q' → q ≡ q'
  pub not_both : (value : Unescaped) (count q : ℕ) → SpellsString x value count → StringRefusedAt x q → ⊥
