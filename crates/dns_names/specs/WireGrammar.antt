-- The wire form of a name at the front of some octets, and its refusals with their places (RFC 1035 3.1; compression,
-- RFC 1035 4.1.4, is refused).
use Rattle.std.specs.Prelude.{◌≡◌, ◌≤◌, ◌<◌, ◌⊎◌, ℕ, ◌+◌, List, [], ◌∷◌, ◌++◌, length, map}
use Rattle.std.specs.Str.{str_to_ascii_lowercase}
use Rattle.dns_names.specs.declared.refusal.NameRefusal.{NameRefusal}
use Rattle.dns_names.specs.declared.refusal.NameRefusal.TheVariants.{LabelTooLong, NameTooLong, Compressed, Short, EmptyLabel, BadEscape, BadByte}
use Rattle.dns_names.specs.Names.{labels_octets, wire_form, CanBegin}

-- the octets are the wire form of labels whose letters, in lower case, are those of the name
pub record SpellsWire (octets : List ℕ) (name : List (List ℕ)) : Type 0 where
  pub labels : List (List ℕ)
  pub begin : CanBegin labels
  pub whole : octets ≡ wire_form labels
  pub lower : name ≡ map str_to_ascii_lowercase labels

-- the front of the octets x spells the name
pub record FrontSpells (x front : List ℕ) (name : List (List ℕ)) : Type 0 where
  pub rest : List ℕ
  pub split : x ≡ front ++ rest
  pub spelled : SpellsWire front name

-- so does a front that ends before place q, where the octets x begin at place p
pub record SpellsUpTo (p : ℕ) (x : List ℕ) (name : List (List ℕ)) (q : ℕ) : Type 0 where
  pub front : List ℕ
  pub spelled : FrontSpells x front name
  pub end : q ≡ p + length front

-- behind whole labels the octets go on with a rest
pub record GoesOn (x : List ℕ) (labels : List (List ℕ)) (rest : List ℕ) : Type 0 where
  pub begin : CanBegin labels
  pub split : x ≡ labels_octets labels ++ rest

-- an octet that no label and no end of a name begins with, behind these labels
abbrev pub Stops : List (List ℕ) → ℕ → NameRefusal → Type 0
Stops labels n Compressed = 192 ≤ n
Stops labels n LabelTooLong = (64 ≤ n) × (n < 192)
Stops labels n NameTooLong = (1 ≤ n) × (n < 64) × (255 < length (labels_octets labels) + 1 + n + 1)
Stops labels n Short = ⊥
Stops labels n EmptyLabel = ⊥
Stops labels n BadEscape = ⊥
Stops labels n BadByte = ⊥

-- at a length octet, where the octets x begin at place p
pub record IsStopped (p : ℕ) (x : List ℕ) (q : ℕ) (reason : NameRefusal) : Type 0 where
  pub labels : List (List ℕ)
  pub octet : ℕ
  pub rest : List ℕ
  pub behind : GoesOn x labels (octet ∷ rest)
  pub stops : Stops labels octet reason
  pub place : q ≡ p + length (labels_octets labels)

-- a label of n octets that ends early, and would have had room
pub record IsCutLabel (labels : List (List ℕ)) (tail : List ℕ) : Type 0 where
  pub octet : ℕ
  pub part : List ℕ
  pub tail_is : tail ≡ octet ∷ part
  pub some : 1 ≤ octet
  pub sized : octet < 64
  pub room : length (labels_octets labels) + 1 + octet + 1 ≤ 255
  pub cut : length part < octet

-- the octets end first
pub record IsShort (p : ℕ) (x : List ℕ) (q : ℕ) : Type 0 where
  pub labels : List (List ℕ)
  pub tail : List ℕ
  pub behind : GoesOn x labels tail
  pub cut : (tail ≡ []) ⊎ IsCutLabel labels tail
  pub place : q ≡ p + length x

-- the table of refusals, where the octets x begin at place p
abbrev pub WireRefusedAt : ℕ → List ℕ → ℕ → NameRefusal → Type 0
WireRefusedAt p x q Short = IsShort p x q
WireRefusedAt p x q LabelTooLong = IsStopped p x q LabelTooLong
WireRefusedAt p x q NameTooLong = IsStopped p x q NameTooLong
WireRefusedAt p x q Compressed = IsStopped p x q Compressed
WireRefusedAt p x q EmptyLabel = ⊥
WireRefusedAt p x q BadEscape = ⊥
WireRefusedAt p x q BadByte = ⊥

-- exactly one front spells a name, and then exactly one, or exactly one refusal, and never both
pub record OneWireName (p : ℕ) (x : List ℕ) : Type 0 where
  pub some : ((front : List ℕ) × (name : List (List ℕ)) × FrontSpells x front name) ⊎ ((q : ℕ) × (reason : NameRefusal) × WireRefusedAt p x q reason)
  pub one_name : (front front' : List ℕ) (name name' : List (List ℕ)) → FrontSpells x front name → FrontSpells x front' name' → (front ≡ front') × (name ≡ name')
  pub one_refusal : (q q' : ℕ) (reason reason' : NameRefusal) → WireRefusedAt p x q reason → WireRefusedAt p x q' reason' → (q ≡ q') × (reason ≡ reason')
  pub not_both : (front : List ℕ) (name : List (List ℕ)) (q : ℕ) (reason : NameRefusal) → FrontSpells x front name → WireRefusedAt p x q reason → ⊥
