-- What is read is a name, and a name is its own spelling.
use Rattle.std.proofs.Common.{◌≡◌, ℕ, suc, ◌+◌, ◌<◌, List, [], ◌∷◌, length, map, refl, ap, sym, ◌∙◌, arith}
use Rattle.std.proofs.lemmas.List.{length-append, length-map}
use Rattle.std.proofs.lemmas.Str.Ascii.{lowercase-lowercase, lowercase_is}
use Rattle.std.specs.Char.{to_ascii_lowercase}
use Rattle.std.specs.Str.{str_to_ascii_lowercase}
use Rattle.dns_names.proofs.Bytes.{bytes_front, bytes_back}
use Rattle.dns_names.specs.Names.{AreBytes, AreNameBytes, IsSized, AreSized, IsLabel, AreLabels, labels_octets, CanBegin, IsName}

pub lower_bound : (b : ℕ) → b < 256 → to_ascii_lowercase b < 256
lower_bound b h = grind (arith, lowercase_is)

pub name_bytes : (label : List ℕ) → AreBytes label → AreNameBytes (str_to_ascii_lowercase label)
name_bytes [] h = tt
name_bytes (b ∷ bs) h = (record { byte = lower_bound b h.0; lower = lowercase-lowercase b }, name_bytes bs h.1)

pub is_label : (label : List ℕ) → IsSized label → AreBytes label → IsLabel (str_to_ascii_lowercase label)
is_label label sized bytes = record {
  sized = record { some = omega (arith, sized.some, length-map label to_ascii_lowercase); most = omega (arith, sized.most, length-map label to_ascii_lowercase) };
  bytes = name_bytes label bytes;
}

pub are_labels : (labels : List (List ℕ)) → AreSized labels → AreBytes (labels_octets labels) → AreLabels (map str_to_ascii_lowercase labels)
are_labels [] sized bytes = tt
are_labels (label ∷ labels) sized bytes =
    (is_label label sized.0 (bytes_front label (labels_octets labels) bytes.1), are_labels labels sized.1 (bytes_back label (labels_octets labels) bytes.1))

pub lower_length : (labels : List (List ℕ)) → length (labels_octets (map str_to_ascii_lowercase labels)) ≡ length (labels_octets labels)
lower_length [] = refl
lower_length (label ∷ labels) =
    ap suc (length-append (str_to_ascii_lowercase label) (labels_octets (map str_to_ascii_lowercase labels)) ∙ same _ _ _ _ (length-map label to_ascii_lowercase) (lower_length labels) ∙ sym (length-append label (labels_octets labels)))
  where
    same : (a b c d : ℕ) → a ≡ b → c ≡ d → a + c ≡ b + d
    same a b c d e f = cc

-- labels in lower case are a name
pub is_name : (labels : List (List ℕ)) → CanBegin labels → AreBytes (labels_octets labels) → IsName (map str_to_ascii_lowercase labels)
is_name labels begin bytes = record {
  labels_are = are_labels labels begin.sized bytes;
  most = omega (arith, length-append (labels_octets (map str_to_ascii_lowercase labels)) (0 ∷ []), length-append (labels_octets labels) (0 ∷ []), lower_length labels, begin.most);
}

pub name_sized : (labels : List (List ℕ)) → AreLabels labels → AreSized labels
name_sized [] h = tt
name_sized (label ∷ labels) h = (h.0.sized, name_sized labels h.1)

pub name_begins : (labels : List (List ℕ)) → IsName labels → CanBegin labels
name_begins labels h = record { sized = name_sized labels h.labels_are; most = h.most }

bytes_lower : (label : List ℕ) → AreNameBytes label → str_to_ascii_lowercase label ≡ label
bytes_lower [] h = refl
bytes_lower (b ∷ bs) h = cons _ _ _ _ h.0.lower (bytes_lower bs h.1)
  where
    cons : (a b : ℕ) (xs ys : List ℕ) → a ≡ b → xs ≡ ys → a ∷ xs ≡ b ∷ ys
    cons a b xs ys e f = cc

-- a name has no upper-case letter
pub labels_lower : (labels : List (List ℕ)) → AreLabels labels → map str_to_ascii_lowercase labels ≡ labels
labels_lower [] h = refl
labels_lower (label ∷ labels) h = cons _ _ _ _ (bytes_lower label h.0.bytes) (labels_lower labels h.1)
  where
    cons : (a b : List ℕ) (xs ys : List (List ℕ)) → a ≡ b → xs ≡ ys → a ∷ xs ≡ b ∷ ys
    cons a b xs ys e f = cc
