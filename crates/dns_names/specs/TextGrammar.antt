-- A name in text (RFC 1035 5.1), and its refusals with their places.
use Rattle.std.specs.Prelude.{◌≡◌, ◌≢◌, ◌≤◌, ◌<◌, ◌⊎◌, ℕ, ◌+◌, false, List, [], ◌∷◌, ◌++◌, length, map}
use Rattle.std.specs.Char.{is_ascii_graphic}
use Rattle.dns_names.specs.declared.refusal.NameRefusal.{NameRefusal}
use Rattle.dns_names.specs.declared.refusal.NameRefusal.TheVariants.{LabelTooLong, NameTooLong, Compressed, Short, EmptyLabel, BadEscape, BadByte}
use Rattle.dns_names.specs.Names.{labels_octets, CanBegin}
use Rattle.dns_names.specs.TextParts.{Part, part_text, parts_text, IsPart, AreParts, label_of, dotted, AreAllParts}

-- the text of labels joined by dots, with a final dot or without
pub record JoinsLabels (x : List ℕ) (name : List (List ℕ)) : Type 0 where
  pub labels : List (List Part)
  pub last : List Part
  pub end : List ℕ
  pub valid : AreAllParts labels
  pub last_valid : AreParts last
  pub final_dot : (end ≡ []) ⊎ (end ≡ 46 ∷ [])
  pub text : x ≡ dotted labels ++ (parts_text last ++ end)
  pub lower : name ≡ map label_of labels ++ label_of last ∷ []
  pub begin : CanBegin name

-- the text spells the name; a dot alone is the root
abbrev pub SpellsText : List ℕ → List (List ℕ) → Type 0
SpellsText x name = ((x ≡ 46 ∷ []) × (name ≡ [])) ⊎ JoinsLabels x name

-- behind whole labels and some parts of one more the text goes on with a rest
pub record TextGoesOn (x : List ℕ) (labels : List (List Part)) (parts : List Part) (rest : List ℕ) : Type 0 where
  pub valid : AreAllParts labels
  pub parts_valid : AreParts parts
  pub begin : CanBegin (map label_of labels)
  pub split : x ≡ dotted labels ++ (parts_text parts ++ rest)

-- a raw byte that isn't shown
pub record IsBadByte (x : List ℕ) (q : ℕ) : Type 0 where
  pub labels : List (List Part)
  pub parts : List Part
  pub byte : ℕ
  pub rest : List ℕ
  pub behind : TextGoesOn x labels parts (byte ∷ rest)
  pub bad : is_ascii_graphic byte ≡ false
  pub place : q ≡ length (dotted labels) + length (parts_text parts)

-- a backslash that begins no part
pub record IsBadEscape (x : List ℕ) (q : ℕ) : Type 0 where
  pub labels : List (List Part)
  pub parts : List Part
  pub rest : List ℕ
  pub behind : TextGoesOn x labels parts (92 ∷ rest)
  pub bad : (part : Part) (more : List ℕ) → IsPart part → 92 ∷ rest ≡ part_text part ++ more → ⊥
  pub place : q ≡ length (dotted labels) + length (parts_text parts)

-- no byte before a dot, or no text at all
pub record IsEmptyLabel (x : List ℕ) (q : ℕ) : Type 0 where
  pub labels : List (List Part)
  pub rest : List ℕ
  pub behind : TextGoesOn x labels [] rest
  pub empty : (x ≡ []) ⊎ ((more : List ℕ) × (rest ≡ 46 ∷ more) × (x ≢ 46 ∷ []))
  pub place : q ≡ length (dotted labels)

-- where a label ends
abbrev pub EndsLabel : List ℕ → Type 0
EndsLabel rest = (rest ≡ []) ⊎ ((more : List ℕ) × (rest ≡ 46 ∷ more))

-- a whole label of more than 63 bytes
pub record IsLongLabel (x : List ℕ) (q : ℕ) : Type 0 where
  pub labels : List (List Part)
  pub parts : List Part
  pub rest : List ℕ
  pub behind : TextGoesOn x labels parts rest
  pub ends : EndsLabel rest
  pub long : 63 < length parts
  pub place : q ≡ length (dotted labels)

-- a whole label with which the wire form passes 255 octets
pub record IsLongName (x : List ℕ) (q : ℕ) : Type 0 where
  pub labels : List (List Part)
  pub parts : List Part
  pub rest : List ℕ
  pub behind : TextGoesOn x labels parts rest
  pub ends : EndsLabel rest
  pub some : 1 ≤ length parts
  pub sized : length parts ≤ 63
  pub long : 255 < length (labels_octets (map label_of labels)) + 1 + length parts + 1
  pub place : q ≡ length (dotted labels)

-- the table of refusals
abbrev pub TextRefusedAt : List ℕ → ℕ → NameRefusal → Type 0
TextRefusedAt x q BadEscape = IsBadEscape x q
TextRefusedAt x q BadByte = IsBadByte x q
TextRefusedAt x q EmptyLabel = IsEmptyLabel x q
TextRefusedAt x q LabelTooLong = IsLongLabel x q
TextRefusedAt x q NameTooLong = IsLongName x q
TextRefusedAt x q Compressed = ⊥
TextRefusedAt x q Short = ⊥

-- exactly one name or exactly one refusal, and never both
pub record OneTextName (x : List ℕ) : Type 0 where
  pub some : ((name : List (List ℕ)) × SpellsText x name) ⊎ ((q : ℕ) × (reason : NameRefusal) × TextRefusedAt x q reason)
  pub one_name : (name name' : List (List ℕ)) → SpellsText x name → SpellsText x name' → name ≡ name'
  pub one_refusal : (q q' : ℕ) (reason reason' : NameRefusal) → TextRefusedAt x q reason → TextRefusedAt x q' reason' → (q ≡ q') × (reason ≡ reason')
  pub not_both : (name : List (List ℕ)) (q : ℕ) (reason : NameRefusal) → SpellsText x name → TextRefusedAt x q reason → ⊥
