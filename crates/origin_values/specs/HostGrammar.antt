-- The texts of addresses and hosts, each beside what it stands for, by how the text splits.
use Rattle.std.specs.Prelude.{◌≡◌, ◌⊎◌, ℕ, ◌<◌, ◌≤◌, true, false, List, [], ◌∷◌, ◌++◌, length, map, codes}
use Rattle.std.specs.List.{list_all, join_with_byte}
use Rattle.std.specs.Char.{is_ascii_digit, to_ascii_lowercase}
use Rattle.std.specs.Net.Addr.{octets_of}
use Rattle.std.specs.Net.Grammar.{IsDotted, IsColonHex}
use Rattle.alt_base.specs.Classes.{in_ranges, host_name_class}
use Rattle.origin_values.specs.declared.refusal.HostRefusal.{HostRefusal}
use Rattle.origin_values.specs.declared.refusal.HostRefusal.TheVariants.{BadHost}
use Rattle.origin_values.specs.declared.address.Addr.{Addr}
use Rattle.origin_values.specs.declared.address.Addr.TheVariants as address
use Rattle.origin_values.specs.declared.host.Host.{Host}
use Rattle.origin_values.specs.declared.host.Host.TheVariants.{Name, V4, V6}

-- RFC 3986 3.2.2, IPv4address: four decimal numbers below 256 without leading zeros, joined by dots
abbrev pub SpellsV4 : List ℕ → List ℕ → Type 0
SpellsV4 text bytes = IsDotted text bytes

-- RFC 4291 2.2: eight groups of one to four hex digits joined by colons, the last two maybe as an IPv4 address; or
-- fewer groups on both sides of one `::`, which stands for one zero group or more
pub record SpellsV6 (text bytes : List ℕ) : Type 0 where
  pub groups : List ℕ
  pub spelled : IsColonHex text groups
  pub value : bytes ≡ octets_of groups

abbrev pub SpellsAddr : List ℕ → Addr → Type 0
SpellsAddr text (address.V4 bytes) = SpellsV4 text bytes
SpellsAddr text (address.V6 bytes) = SpellsV6 text bytes

-- one to 63 letters, digits, `-` and `_`
pub record IsLabel (label : List ℕ) : Type 0 where
  pub some : 0 < length label
  pub short : length label ≤ 63
  pub allowed : list_all (in_ranges host_name_class) label ≡ true

-- labels, the last of which isn't all digits
abbrev pub AreLabels : List (List ℕ) → Type 0
AreLabels [] = ⊥
AreLabels (label ∷ []) = IsLabel label × (list_all is_ascii_digit label ≡ false)
AreLabels (label ∷ next ∷ labels) = IsLabel label × AreLabels (next ∷ labels)

-- at most 253 bytes, which are labels joined by dots; the name has its letters in lower case
pub record SpellsName (text name : List ℕ) : Type 0 where
  pub labels : List (List ℕ)
  pub are_labels : AreLabels labels
  pub spelled : text ≡ join_with_byte 46 labels
  pub short : length text ≤ 253
  pub value : name ≡ map to_ascii_lowercase text

-- an IPv6 address in brackets
pub record SpellsBracketed (text bytes : List ℕ) : Type 0 where
  pub inner : List ℕ
  pub spelled : text ≡ codes "[" ++ inner ++ codes "]"
  pub address : SpellsV6 inner bytes

-- RFC 3986 3.2.2: a name, an IPv4 address, or an IPv6 address in brackets
abbrev pub SpellsHost : List ℕ → Host → Type 0
SpellsHost text (Name name) = SpellsName text name
SpellsHost text (V4 bytes) = SpellsV4 text bytes
SpellsHost text (V6 bytes) = SpellsBracketed text bytes

-- the table of refusals: a text that spells no host is refused at its first byte
abbrev pub HostRefusedAt : List ℕ → ℕ → HostRefusal → Type 0
HostRefusedAt text place BadHost = (place ≡ 0) × ((host : Host) → ¬ (SpellsHost text host))

-- exactly one host or exactly one refusal, and never both
pub record OneHost (text : List ℕ) : Type 0 where
  pub some : ((host : Host) × SpellsHost text host) ⊎ ((place : ℕ) × (reason : HostRefusal) × HostRefusedAt text place reason)
  pub one_host : (a b : Host) → SpellsHost text a → SpellsHost text b → a ≡ b
  pub one_refusal : (p q : ℕ) (r s : HostRefusal) → HostRefusedAt text p r → HostRefusedAt text q s → (p ≡ q) × (r ≡ s)
  pub not_both : (host : Host) (place : ℕ) (reason : HostRefusal) → SpellsHost text host → HostRefusedAt text place reason → ⊥
