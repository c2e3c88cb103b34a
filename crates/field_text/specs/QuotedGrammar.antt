-- The grammar of a quoted string (RFC 9110 5.6.4) at the front of a text, and its refusals with their places.
use Rattle.std.specs.Prelude.{◌≡◌, ◌≢◌, ◌⊎◌, ℕ, ◌+◌, Bool, true, false, List, [], ◌∷◌, ◌++◌, length}
use Rattle.alt_base.specs.Classes.{in_ranges, quoted_text_class, after_backslash_class}
use Rattle.field_text.specs.declared.text_refusal.TextRefusal.{TextRefusal}
use Rattle.field_text.specs.declared.text_refusal.TextRefusal.TheVariants.{Empty, BadByte, Unclosed}
use Rattle.field_text.specs.OneReading.{OneReading}

-- 34 is the quote, 92 the backslash
abbrev pub is_quoted_text : ℕ → Bool
is_quoted_text byte = in_ranges quoted_text_class byte

abbrev pub is_after_backslash : ℕ → Bool
is_after_backslash byte = in_ranges after_backslash_class byte

-- a byte that stands for itself, or one behind a backslash
pub data Part : Type 0 where
  Raw : (byte : ℕ) → Part
  Escaped : (byte : ℕ) → Part

-- as it is written
abbrev pub part_text : Part → List ℕ
part_text (Raw b) = b ∷ []
part_text (Escaped b) = 92 ∷ b ∷ []

abbrev pub parts_text : List Part → List ℕ
parts_text [] = []
parts_text (part ∷ parts) = part_text part ++ parts_text parts

-- the byte that it stands for
abbrev pub part_byte : Part → ℕ
part_byte (Raw b) = b
part_byte (Escaped b) = b

-- the unquoted text
abbrev pub parts_bytes : List Part → List ℕ
parts_bytes [] = []
parts_bytes (part ∷ parts) = part_byte part ∷ parts_bytes parts

-- no quote and no backslash is quoted text
abbrev pub IsPart : Part → Type 0
IsPart (Raw b) = is_quoted_text b ≡ true
IsPart (Escaped b) = is_after_backslash b ≡ true

abbrev pub AreParts : List Part → Type 0
AreParts [] = Unit {0}
AreParts (part ∷ parts) = IsPart part × AreParts parts

-- at place p the text begins with a quoted string that ends before place q
pub record SpellsQuoted (p : ℕ) (x : List ℕ) (q : ℕ) : Type 0 where
  pub parts : List Part
  pub rest : List ℕ
  pub valid : AreParts parts
  pub text : x ≡ 34 ∷ (parts_text parts ++ 34 ∷ rest)
  pub end : q ≡ (p + 1) + length (parts_text parts) + 1

abbrev pub BeginsWithQuote : List ℕ → Type 0
BeginsWithQuote [] = ⊥
BeginsWithQuote (b ∷ bs) = b ≡ 34

-- a byte that is neither a quote, nor a backslash, nor quoted text
pub record IsBadByte (p : ℕ) (x : List ℕ) (q : ℕ) : Type 0 where
  pub parts : List Part
  pub byte : ℕ
  pub rest : List ℕ
  pub valid : AreParts parts
  pub text : x ≡ 34 ∷ (parts_text parts ++ byte ∷ rest)
  pub bad : is_quoted_text byte ≡ false
  pub no_quote : byte ≢ 34
  pub no_backslash : byte ≢ 92
  pub place : q ≡ (p + 1) + length (parts_text parts)

-- a byte that may not stand behind a backslash
pub record IsBadEscape (p : ℕ) (x : List ℕ) (q : ℕ) : Type 0 where
  pub parts : List Part
  pub byte : ℕ
  pub rest : List ℕ
  pub valid : AreParts parts
  pub text : x ≡ 34 ∷ (parts_text parts ++ 92 ∷ byte ∷ rest)
  pub bad : is_after_backslash byte ≡ false
  pub place : q ≡ (p + 1) + length (parts_text parts) + 1

-- the text ends before the closing quote, maybe behind a backslash
pub record IsUnclosed (p : ℕ) (x : List ℕ) (q : ℕ) : Type 0 where
  pub parts : List Part
  pub tail : List ℕ
  pub valid : AreParts parts
  pub text : x ≡ 34 ∷ (parts_text parts ++ tail)
  pub cut : (tail ≡ []) ⊎ (tail ≡ 92 ∷ [])
  pub place : q ≡ p + length x

-- the table of refusals
abbrev pub QuotedRefusedAt : ℕ → List ℕ → ℕ → TextRefusal → Type 0
QuotedRefusedAt p x q Empty = (q ≡ p) × (BeginsWithQuote x → ⊥)
QuotedRefusedAt p x q BadByte = IsBadByte p x q ⊎ IsBadEscape p x q
QuotedRefusedAt p x q Unclosed = IsUnclosed p x q

abbrev pub OneQuoted : ℕ → List ℕ → Type 0
OneQuoted p x = OneReading ℕ TextRefusal (SpellsQuoted p x) (QuotedRefusedAt p x)
