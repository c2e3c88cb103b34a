-- The texts of a certificate's names, each beside what it stands for, by how the text splits; and the table of refusals.
use Rattle.std.specs.Prelude.{◌≡◌, ◌≢◌, ◌⊎◌, ℕ, List, [], ◌∷◌, ◌++◌, length, codes}
use Rattle.std.specs.List.{join_with_byte}
use Rattle.origin_values.specs.HostGrammar.{SpellsName, SpellsAddr}
use Rattle.coalescing.specs.declared.cert_name.CertName.{CertName}
use Rattle.coalescing.specs.declared.cert_name.CertName.TheVariants.{Exact, Wild, Ip}
use Rattle.coalescing.specs.declared.refusal.CertRefusal.{CertRefusal}
use Rattle.coalescing.specs.declared.refusal.CertRefusal.TheVariants.{BadName}

-- `*.` and a host's name (RFC 9525 6.3): the asterisk stands for one whole label, the first
pub record SpellsWild (text base : List ℕ) : Type 0 where
  pub behind : List ℕ
  pub spelled : text ≡ codes "*." ++ behind
  pub name : SpellsName behind base

-- a host's name, a wildcard, or an address without brackets
abbrev pub SpellsItem : List ℕ → CertName → Type 0
SpellsItem text (Exact name) = SpellsName text name
SpellsItem text (Wild base) = SpellsWild text base
SpellsItem text (Ip addr) = SpellsAddr text addr

-- each item spells the name at its place
abbrev pub SpellEach : List (List ℕ) → List CertName → Type 0
SpellEach [] [] = Unit {0}
SpellEach (item ∷ items) (name ∷ names) = SpellsItem item name × SpellEach items names
SpellEach _ _ = ⊥

-- items joined by commas, each of which spells the name at its place
pub record SpellsItems (text : List ℕ) (names : List CertName) : Type 0 where
  pub items : List (List ℕ)
  pub each : SpellEach items names
  pub spelled : text ≡ join_with_byte 44 items

-- no names are written as `-`, and this text alone is never a name
abbrev pub SpellsNames : List ℕ → List CertName → Type 0
SpellsNames text [] = text ≡ codes "-"
SpellsNames text (name ∷ names) = (text ≢ codes "-") × SpellsItems text (name ∷ names)

-- items, each with the comma behind it
abbrev pub with_commas : List (List ℕ) → List ℕ
with_commas [] = []
with_commas (item ∷ items) = item ++ 44 ∷ with_commas items

-- what may stand behind an item: nothing, or what begins with a comma
abbrev pub EndsItem : List ℕ → Type 0
EndsItem [] = Unit {0}
EndsItem (b ∷ bs) = b ≡ 44

-- the first item that spells no name, up to the next comma or the end, stands at the place of its first byte
pub record IsBadName (text : List ℕ) (place : ℕ) : Type 0 where
  pub before : List (List ℕ)
  pub names : List CertName
  pub item : List ℕ
  pub behind : List ℕ
  pub spelled : text ≡ with_commas before ++ (item ++ behind)
  pub each : SpellEach before names
  pub no_comma : (front back : List ℕ) → item ≡ front ++ 44 ∷ back → ⊥
  pub end : EndsItem behind
  pub bad : (name : CertName) → ¬ (SpellsItem item name)
  pub at : place ≡ length (with_commas before)

-- the table of refusals
abbrev pub NamesRefusedAt : List ℕ → ℕ → CertRefusal → Type 0
NamesRefusedAt text place BadName = IsBadName text place

-- exactly one list of names or exactly one refusal, and never both
pub record OneNames (text : List ℕ) : Type 0 where
  pub some : ((names : List CertName) × SpellsNames text names) ⊎ ((place : ℕ) × (reason : CertRefusal) × NamesRefusedAt text place reason)
  pub one_list : (a b : List CertName) → SpellsNames text a → SpellsNames text b → a ≡ b
  pub one_refusal : (p q : ℕ) (r s : CertRefusal) → NamesRefusedAt text p r → NamesRefusedAt text q s → (p ≡ q) × (r ≡ s)
  pub not_both : (names : List CertName) (place : ℕ) (reason : CertRefusal) → SpellsNames text names → NamesRefusedAt text place reason → ⊥
