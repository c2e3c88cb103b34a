-- Names as lists of labels, each a list of bytes (RFC 1035 3.1), and their wire form.
use Rattle.std.specs.Prelude.{◌≡◌, ◌≤◌, ◌<◌, ℕ, Bool, nat_eq, List, [], ◌∷◌, ◌++◌, length}
use Rattle.std.specs.Char.{to_ascii_lowercase}
use Rattle.std.specs.Cmp.Lexicographic.{pointwise}

-- two names are one: their labels are
abbrev pub name_eq : List (List ℕ) → List (List ℕ) → Bool
name_eq = pointwise (pointwise nat_eq)

abbrev pub AreBytes : List ℕ → Type 0
AreBytes [] = Unit {0}
AreBytes (b ∷ bs) = (b < 256) × AreBytes bs

-- a byte that is no upper-case letter
pub record IsNameByte (b : ℕ) : Type 0 where
  pub byte : b < 256
  pub lower : to_ascii_lowercase b ≡ b

abbrev pub AreNameBytes : List ℕ → Type 0
AreNameBytes [] = Unit {0}
AreNameBytes (b ∷ bs) = IsNameByte b × AreNameBytes bs

-- a length that a label may have
pub record IsSized (label : List ℕ) : Type 0 where
  pub some : 1 ≤ length label
  pub most : length label ≤ 63

abbrev pub AreSized : List (List ℕ) → Type 0
AreSized [] = Unit {0}
AreSized (label ∷ labels) = IsSized label × AreSized labels

pub record IsLabel (label : List ℕ) : Type 0 where
  pub sized : IsSized label
  pub bytes : AreNameBytes label

abbrev pub AreLabels : List (List ℕ) → Type 0
AreLabels [] = Unit {0}
AreLabels (label ∷ labels) = IsLabel label × AreLabels labels

-- labels on the wire, each behind its length octet
abbrev pub labels_octets : List (List ℕ) → List ℕ
labels_octets [] = []
labels_octets (label ∷ labels) = length label ∷ (label ++ labels_octets labels)

-- the wire form: the labels and the octet 0
abbrev pub wire_form : List (List ℕ) → List ℕ
wire_form labels = labels_octets labels ++ 0 ∷ []

-- labels with which a name may begin, with letters in either case
pub record CanBegin (labels : List (List ℕ)) : Type 0 where
  pub sized : AreSized labels
  pub most : length (wire_form labels) ≤ 255

-- a name: its labels in lower case, at most 255 octets on the wire
pub record IsName (labels : List (List ℕ)) : Type 0 where
  pub labels_are : AreLabels labels
  pub most : length (wire_form labels) ≤ 255
