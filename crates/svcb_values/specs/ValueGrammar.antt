-- Which values the strings of parameters stand for, by their keys (RFC 9460 7, 8 and appendix A.1).
use Rattle.std.specs.Prelude.{◌≡◌, ◌≢◌, ◌≤◌, ◌<◌, ◌⊎◌, ℕ, true, List, [], ◌∷◌, ◌++◌, length, map}
use Rattle.std.specs.List.{join_with_byte}
use Rattle.std.specs.Str.Parse.{IsNumeral, digits_value}
use Rattle.origin_values.specs.HostGrammar.{SpellsV4, SpellsV6}
use Rattle.svcb_wire.specs.declared.param.Param.{Param}
use Rattle.svcb_wire.specs.declared.param.Param.TheVariants.{Mandatory, Alpn, NoDefaultAlpn, Port, V4Hint, Other, V6Hint}
use Rattle.svcb_wire.specs.Forms.{IsOtherKey}
use Rattle.svcb_values.specs.declared.unescaped.Unescaped.{Unescaped}
use Rattle.svcb_values.specs.KeyNames.{key_name}
use Rattle.svcb_values.specs.KeyOrder.{IsNew, IsOrderOf}

-- keys of a mandatory list: none is mandatory itself, and none stands twice
abbrev pub AreMandatory : List ℕ → Type 0
AreMandatory [] = Unit {0}
AreMandatory (key ∷ keys) = (1 ≤ key) × (key < 65536) × IsNew key keys × AreMandatory keys

-- names of keys joined by commas, in any order
pub record SpellsKeys (text keys : List ℕ) : Type 0 where
  pub named : List ℕ
  pub some : named ≢ []
  pub are_mandatory : AreMandatory named
  pub spelled : text ≡ join_with_byte 44 (map key_name named)
  pub order : IsOrderOf (λ key. key) named keys

-- a byte of an id that stands for itself, or a comma or a backslash behind a backslash
pub data IdPart : Type 0 where
  Plain : (byte : ℕ) → IdPart
  Escaped : (byte : ℕ) → IdPart

abbrev pub IsIdPart : IdPart → Type 0
IsIdPart (Plain b) = (b ≢ 44) × (b ≢ 92)
IsIdPart (Escaped b) = (b ≡ 44) ⊎ (b ≡ 92)

abbrev pub AreIdParts : List IdPart → Type 0
AreIdParts [] = Unit {0}
AreIdParts (part ∷ parts) = IsIdPart part × AreIdParts parts

abbrev pub id_part_text : IdPart → List ℕ
id_part_text (Plain b) = b ∷ []
id_part_text (Escaped b) = 92 ∷ b ∷ []

abbrev pub id_part_byte : IdPart → ℕ
id_part_byte (Plain b) = b
id_part_byte (Escaped b) = b

abbrev pub id_text : List IdPart → List ℕ
id_text [] = []
id_text (part ∷ parts) = id_part_text part ++ id_text parts

-- an id of 1 to 255 bytes
pub record IsIdText (parts : List IdPart) : Type 0 where
  pub valid : AreIdParts parts
  pub some : 1 ≤ length parts
  pub most : length parts ≤ 255

abbrev pub AreIdTexts : List (List IdPart) → Type 0
AreIdTexts [] = Unit {0}
AreIdTexts (parts ∷ more) = IsIdText parts × AreIdTexts more

-- ids joined by commas
pub record SpellsIds (text : List ℕ) (ids : List (List ℕ)) : Type 0 where
  pub items : List (List IdPart)
  pub some : items ≢ []
  pub valid : AreIdTexts items
  pub spelled : text ≡ join_with_byte 44 (map id_text items)
  pub value : ids ≡ map (map id_part_byte) items

-- each text spells the address at its place
abbrev pub SpellEach : (List ℕ → List ℕ → Type 0) → List (List ℕ) → List (List ℕ) → Type 0
SpellEach Spells [] [] = Unit {0}
SpellEach Spells (text ∷ texts) (address ∷ addresses) = Spells text address × SpellEach Spells texts addresses
SpellEach Spells _ _ = ⊥

-- addresses joined by commas
pub record SpellsAddresses (Spells : List ℕ → List ℕ → Type 0) (text : List ℕ) (addresses : List (List ℕ)) : Type 0 where
  pub items : List (List ℕ)
  pub some : items ≢ []
  pub each : SpellEach Spells items addresses
  pub spelled : text ≡ join_with_byte 44 items

-- one to five digits of a number of at most 65535
pub record SpellsPort (text : List ℕ) (port : ℕ) : Type 0 where
  pub numeral : IsNumeral 10 text
  pub short : length text ≤ 5
  pub value : port ≡ digits_value 10 text
  pub most : port ≤ 65535

-- what a string stands for is a parameter of this key; where a backslash stands in it, only ids and other keys' values are
abbrev pub SpellsValue : ℕ → Unescaped → Param → Type 0
SpellsValue key value (Mandatory keys) = (key ≡ 0) × (value.plain ≡ true) × SpellsKeys value.bytes keys
SpellsValue key value (Alpn ids) = (key ≡ 1) × SpellsIds value.bytes ids
SpellsValue key value NoDefaultAlpn = (key ≡ 2) × (value.bytes ≡ [])
SpellsValue key value (Port port) = (key ≡ 3) × (value.plain ≡ true) × SpellsPort value.bytes port
SpellsValue key value (V4Hint addresses) = (key ≡ 4) × (value.plain ≡ true) × SpellsAddresses SpellsV4 value.bytes addresses
SpellsValue key value (Other other bytes) = (key ≡ other) × IsOtherKey other × (bytes ≡ value.bytes)
SpellsValue key value (V6Hint addresses) = (key ≡ 6) × (value.plain ≡ true) × SpellsAddresses SpellsV6 value.bytes addresses
