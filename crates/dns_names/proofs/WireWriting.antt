-- The loop that writes labels in their wire form.
use Rattle.std.proofs.Common.{◌≡◌, ℕ, zero, suc, ◌+◌, ◌<◌, ◌≤◌, List, [], ◌∷◌, ◌++◌, length, take, get_or, ap, sym, ◌∙◌, arith}
use Rattle.std.proofs.lemmas.List.{append_assoc, take_more}
use Rattle.dns_names.specs.Names.{IsSized, AreSized, labels_octets}
use Rattle.dns_names.proofs.WireSays.{octets_push}

pub sized_at : (labels : List (List ℕ)) (i : ℕ) (d : List ℕ) → i < length labels → AreSized labels → IsSized (get_or labels i d)
sized_at [] i d h sized = absurd (omega arith)
sized_at (label ∷ labels) zero d h sized = sized.0
sized_at (label ∷ labels) (suc i) d h sized = sized_at labels i d (omega arith) sized.1

pub label_length : (labels : List (List ℕ)) (i : ℕ) (label : List ℕ) → i < length labels → label ≡ get_or labels i label → AreSized labels → length label ≤ 63
label_length labels i label h is sized = let one = sized_at labels i label h sized in omega (arith, one.most, ap length is)

pub octets_more : (labels : List (List ℕ)) (i : ℕ) (label octets pushed new : List ℕ) → i < length labels → label ≡ get_or labels i label → octets ≡ labels_octets (take i labels) → pushed ≡ octets ++ length label ∷ [] → new ≡ pushed ++ label
    → new ≡ labels_octets (take (i + 1) labels)
octets_more labels i label octets pushed new h is so_far one two =
    two ∙ ap (λ xs. xs ++ label) (one ∙ ap (λ xs. xs ++ length label ∷ []) so_far) ∙ append_assoc (labels_octets (take i labels)) (length label ∷ []) label
    ∙ sym (octets_push (take i labels) label) ∙ ap (λ l. labels_octets (take i labels ++ l ∷ [])) is ∙ ap labels_octets (sym (take_more labels i label h))
