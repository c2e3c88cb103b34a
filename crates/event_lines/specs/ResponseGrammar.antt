-- The fields of a response in a line, each behind a tab, by how they split, and what they say together (RFC 9110 5).
use Rattle.std.specs.Prelude.{◌≡◌, ◌⊎◌, ℕ, Bool, not, ◌&&◌, nat_eq, List, [], ◌∷◌, ◌++◌, codes, Option, Some, None, if◌then◌else◌}
use Rattle.std.specs.Cmp.Lexicographic.{pointwise}
use Rattle.alt_base.specs.Classes.{in_ranges}
use Rattle.field_text.specs.Runs.{AllIn, BeginsIn}
use Rattle.field_text.specs.DeltaGrammar.{SpellsDelta, IsNoDelta}
use Rattle.http_header.specs.Token.{lowercase}
use Rattle.http_header.specs.FieldName.{IsFieldName}
use Rattle.event_lines.specs.Parts.{is_space}

-- a field: its name in lower case, since names are compared without regard to case (RFC 9110 5.1), and its value
pub record Field : Type 0 where
  pub name : List ℕ
  pub value : List ℕ

-- the bytes of a value: printable ones and those past ASCII (RFC 9110 5.5), without the tab
abbrev pub value_class : List (ℕ × ℕ)
value_class = (32, 126) ∷ (128, 255) ∷ []

abbrev pub is_value_byte : ℕ → Bool
is_value_byte b = in_ranges value_class b

abbrev pub is_tab : ℕ → Bool
is_tab b = nat_eq b 9

-- a byte other than a tab
abbrev pub is_field_byte : ℕ → Bool
is_field_byte b = not (is_tab b)

-- a byte that is neither a space nor a tab
abbrev pub is_word_byte : ℕ → Bool
is_word_byte b = not (is_space b) && is_field_byte b

abbrev pub EndsInSpace : List ℕ → Type 0
EndsInSpace [] = ⊥
EndsInSpace (b ∷ []) = b ≡ 32
EndsInSpace (b ∷ c ∷ bs) = EndsInSpace (c ∷ bs)

-- bytes of a value, without a space at either end
pub record IsValue (value : List ℕ) : Type 0 where
  pub bytes : AllIn is_value_byte value
  pub begin : ¬ (BeginsIn is_space value)
  pub end : ¬ (EndsInSpace value)

-- a name in any case, a colon, and a value between spaces, which may be missing
pub record SpellsField (text : List ℕ) (field : Field) : Type 0 where
  pub name : List ℕ
  pub before : List ℕ
  pub after : List ℕ
  pub spelled : text ≡ name ++ 58 ∷ (before ++ (field.value ++ after))
  pub of_name : IsFieldName name
  pub lower : field.name ≡ lowercase name
  pub of_before : AllIn is_space before
  pub of_after : AllIn is_space after
  pub of_value : IsValue field.value

-- each text spells its field
abbrev pub SpellFields : List (List ℕ) → List Field → Type 0
SpellFields [] [] = Unit {0}
SpellFields [] (field ∷ fields) = ⊥
SpellFields (text ∷ texts) [] = ⊥
SpellFields (text ∷ texts) (field ∷ fields) = SpellsField text field × SpellFields texts fields

-- texts, each behind a tab
abbrev pub tabbed : List (List ℕ) → List ℕ
tabbed [] = []
tabbed (text ∷ texts) = 9 ∷ (text ++ tabbed texts)

-- how many fields there may be
abbrev pub most_fields : ℕ
most_fields = 64

abbrev pub is_named : List ℕ → Field → Bool
is_named name field = pointwise nat_eq field.name name

-- the values of the fields of a name, in their order
abbrev pub values_of : List ℕ → List Field → List (List ℕ)
values_of name [] = []
values_of name (field ∷ fields) = if is_named name field then field.value ∷ values_of name fields else values_of name fields

-- values behind another one, each behind a comma and a space
abbrev pub further_values : List (List ℕ) → List ℕ
further_values [] = []
further_values (value ∷ values) = codes ", " ++ (value ++ further_values values)

-- values joined by a comma and a space (RFC 9110 5.3), none where there are none
abbrev pub joined_values : List (List ℕ) → Option (List ℕ)
joined_values [] = None
joined_values (value ∷ values) = Some (value ++ further_values values)

-- a number of seconds (RFC 9111 1.2.2) tells itself, the largest one where it is larger; a value that is none is ignored
-- (RFC 9111 5.1), so that the age is 0
abbrev pub TellsAge : List ℕ → ℕ → Type 0
TellsAge value age = SpellsDelta value age ⊎ (IsNoDelta value × (age ≡ 0))

-- of several values the first counts (RFC 9111 5.1), and where there is none the age is 0
abbrev pub TellAge : List (List ℕ) → ℕ → Type 0
TellAge [] age = age ≡ 0
TellAge (value ∷ values) age = TellsAge value age

-- the age of a response, by its Age fields
abbrev pub HaveAge : List Field → ℕ → Type 0
HaveAge fields age = TellAge (values_of (codes "age") fields) age

-- the value of its Alt-Svc fields (RFC 7838 3), if there are any
abbrev pub altsvc_of : List Field → Option (List ℕ)
altsvc_of fields = joined_values (values_of (codes "alt-svc") fields)
