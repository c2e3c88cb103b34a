-- How the bytes of a label stand in text (RFC 1035 5.1; RFC 9460 appendix A), and what is written for a name.
use Rattle.std.specs.Prelude.{◌≡◌, ◌≢◌, ◌≤◌, ℕ, ◌+◌, ◌-◌, ◌*◌, ◌/◌, ◌%◌, Bool, true, false, ◌||◌, nat_eq, if◌then◌else◌, List, [], ◌∷◌, ◌++◌, map}
use Rattle.std.specs.Char.{to_ascii_lowercase, is_ascii_digit, is_ascii_graphic}

-- a byte as it stands, a byte behind a backslash, or three digits behind a backslash
pub data Part : Type 0 where
  Raw : (byte : ℕ) → Part
  Quoted : (byte : ℕ) → Part
  Decimal : (hundreds tens ones : ℕ) → Part

abbrev pub part_text : Part → List ℕ
part_text (Raw b) = b ∷ []
part_text (Quoted b) = 92 ∷ b ∷ []
part_text (Decimal a b c) = 92 ∷ a ∷ b ∷ c ∷ []

-- the number that three digits write
abbrev pub decimal_value : ℕ → ℕ → ℕ → ℕ
decimal_value a b c = 100 * (a - 48) + 10 * (b - 48) + (c - 48)

abbrev pub part_byte : Part → ℕ
part_byte (Raw b) = b
part_byte (Quoted b) = b
part_byte (Decimal a b c) = decimal_value a b c

-- a raw byte is a shown one, and neither dot nor backslash; behind a backslash stands a shown byte that is no digit, or
-- three digits of a byte's value
abbrev pub IsPart : Part → Type 0
IsPart (Raw b) = (is_ascii_graphic b ≡ true) × (b ≢ 46) × (b ≢ 92)
IsPart (Quoted b) = (is_ascii_graphic b ≡ true) × (is_ascii_digit b ≡ false)
IsPart (Decimal a b c) = (is_ascii_digit a ≡ true) × (is_ascii_digit b ≡ true) × (is_ascii_digit c ≡ true) × (decimal_value a b c ≤ 255)

abbrev pub parts_text : List Part → List ℕ
parts_text [] = []
parts_text (part ∷ parts) = part_text part ++ parts_text parts

abbrev pub AreParts : List Part → Type 0
AreParts [] = Unit {0}
AreParts (part ∷ parts) = IsPart part × AreParts parts

abbrev pub part_lower : Part → ℕ
part_lower part = to_ascii_lowercase (part_byte part)

-- the label that parts spell, in lower case
abbrev pub label_of : List Part → List ℕ
label_of parts = map part_lower parts

-- labels, each with its dot
abbrev pub dotted : List (List Part) → List ℕ
dotted [] = []
dotted (parts ∷ labels) = parts_text parts ++ 46 ∷ dotted labels

abbrev pub AreAllParts : List (List Part) → Type 0
AreAllParts [] = Unit {0}
AreAllParts (parts ∷ labels) = AreParts parts × AreAllParts labels

-- the bytes that are written behind a backslash: " $ ( ) . ; @ and the backslash
abbrev pub is_special : ℕ → Bool
is_special b = nat_eq b 34 || (nat_eq b 36 || (nat_eq b 40 || (nat_eq b 41 || (nat_eq b 46 || (nat_eq b 59 || (nat_eq b 64 || nat_eq b 92))))))

-- what is written for a byte
abbrev pub part_of : ℕ → Part
part_of b = if is_special b then Quoted b else (if is_ascii_graphic b then Raw b else Decimal (48 + b / 100) (48 + b / 10 % 10) (48 + b % 10))

-- a special byte stands behind a backslash, another one that is shown for itself, and any other as three digits
abbrev pub part_by : Bool → Bool → ℕ → Part
part_by special shown b = if special then Quoted b else (if shown then Raw b else Decimal (48 + b / 100) (48 + b / 10 % 10) (48 + b % 10))

-- what is written for a name
abbrev pub text_form : List (List ℕ) → List ℕ
text_form [] = 46 ∷ []
text_form (label ∷ labels) = dotted (map (map part_of) (label ∷ labels))
