-- How far places and written forms go.
use Rattle.std.proofs.Common.{◌≡◌, ℕ, ◌+◌, ◌*◌, ◌<◌, ◌≤◌, List, [], ◌∷◌, ◌++◌, length, map, drop, ◌⊎◌, inl, inr, None, Result, Ok, Err, refl, arith, ap, ◌∙◌}
use Rattle.std.proofs.lemmas.List.{length-append, length-drop, length-map}
use Rattle.std.specs.Result.{result_ok}
use Rattle.alt_base.specs.declared.refusal.Refused.{Refused}
use Rattle.alt_base.specs.declared.refusal.Refused.TheVariants.{NoMemory, At as RefusedThere}
use Rattle.dns_names.specs.declared.refusal.NameRefusal.{NameRefusal}
use Rattle.dns_names.specs.declared.refusal.NameRefusal.TheVariants.{LabelTooLong, NameTooLong, Compressed, Short, EmptyLabel, BadEscape, BadByte}
use Rattle.alt_base.specs.Answers.{IfRefused}
use Rattle.dns_names.specs.Names.{labels_octets, IsName}
use Rattle.dns_names.specs.WireGrammar.{SpellsUpTo, GoesOn, WireRefusedAt}
use Rattle.dns_names.specs.TextParts.{Part, Raw, Quoted, Decimal, part_text, parts_text, part_lower, label_of, dotted, part_of, text_form}
use Rattle.dns_names.specs.TextGrammar.{JoinsLabels, SpellsText, TextGoesOn, TextRefusedAt}
use Rattle.dns_names.specs.TextReading.{TextAnswer, read_text}
use Rattle.dns_names.proofs.TextNames.{read_says}
use Rattle.dns_names.proofs.WireSays.{length_wire, length_octets_push}

-- the place after a name is behind its first octet, and no further than the octets go
pub end_within : (p q : ℕ) (input : List ℕ) (name : List (List ℕ)) → p ≤ length input → SpellsUpTo p (drop p input) name q → (p < q) × (q ≤ length input)
end_within p q input name h s =
    let w = s.spelled.spelled in
    let size : length s.front ≡ length (labels_octets w.labels) + 1 = ap length w.whole ∙ length_wire w.labels in
    let all : length (drop p input) ≡ length s.front + length s.spelled.rest = ap length s.spelled.split ∙ length-append s.front s.spelled.rest in
    (omega (arith, s.end, size), omega (arith, s.end, all, length-drop p input, h))

goes_within : (x rest : List ℕ) (labels : List (List ℕ)) → GoesOn x labels rest → length (labels_octets labels) ≤ length x
goes_within x rest labels goes = omega (arith, ap length goes.split, length-append (labels_octets labels) rest)

wire_within : (p q : ℕ) (x : List ℕ) (reason : NameRefusal) → WireRefusedAt p x q reason → q ≤ p + length x
wire_within p q x Short s = omega (arith, s.place)
wire_within p q x LabelTooLong s = omega (arith, s.place, goes_within x (s.octet ∷ s.rest) s.labels s.behind)
wire_within p q x NameTooLong s = omega (arith, s.place, goes_within x (s.octet ∷ s.rest) s.labels s.behind)
wire_within p q x Compressed s = omega (arith, s.place, goes_within x (s.octet ∷ s.rest) s.labels s.behind)
wire_within p q x EmptyLabel s = absurd s
wire_within p q x BadEscape s = absurd s
wire_within p q x BadByte s = absurd s

pub wire_refused_within : (r : Result (List (List ℕ) × ℕ) (Refused NameRefusal)) (p : ℕ) (input : List ℕ) → p ≤ length input → IfRefused r (WireRefusedAt p (drop p input)) → IfRefused r (λ place reason. place ≤ length input)
wire_refused_within (Ok value) p input h s = tt
wire_refused_within (Err NoMemory) p input h s = tt
wire_refused_within (Err (RefusedThere place reason)) p input h s = omega (arith, wire_within p place (drop p input) reason s, length-drop p input, h)

front_within : (x rest : List ℕ) (labels : List (List Part)) (parts : List Part) → TextGoesOn x labels parts rest → length (dotted labels) + length (parts_text parts) ≤ length x
front_within x rest labels parts goes = omega (arith, ap length goes.split, length-append (dotted labels) (parts_text parts ++ rest), length-append (parts_text parts) rest)

text_within : (q : ℕ) (x : List ℕ) (reason : NameRefusal) → TextRefusedAt x q reason → q ≤ length x
text_within q x BadEscape s = omega (arith, s.place, front_within x (92 ∷ s.rest) s.labels s.parts s.behind)
text_within q x BadByte s = omega (arith, s.place, front_within x (s.byte ∷ s.rest) s.labels s.parts s.behind)
text_within q x EmptyLabel s = omega (arith, s.place, front_within x s.rest s.labels [] s.behind)
text_within q x LabelTooLong s = omega (arith, s.place, front_within x s.rest s.labels s.parts s.behind)
text_within q x NameTooLong s = omega (arith, s.place, front_within x s.rest s.labels s.parts s.behind)
text_within q x Compressed s = absurd s
text_within q x Short s = absurd s

pub text_refused_within : (r : Result (List (List ℕ)) (Refused NameRefusal)) (x : List ℕ) → IfRefused r (TextRefusedAt x) → IfRefused r (λ place reason. place ≤ length x)
text_refused_within (Ok value) x s = tt
text_refused_within (Err NoMemory) x s = tt
text_refused_within (Err (RefusedThere place reason)) x s = text_within place x reason s

part_most : (part : Part) → length (part_text part) ≤ 4
part_most (Raw b) = omega arith
part_most (Quoted b) = omega arith
part_most (Decimal a b c) = omega arith

parts_most : (label : List ℕ) → length (parts_text (map part_of label)) ≤ 4 * length label
parts_most [] = omega arith
parts_most (b ∷ bs) = omega (arith, length-append (part_text (part_of b)) (parts_text (map part_of bs)), part_most (part_of b), parts_most bs)

dotted_most : (labels : List (List ℕ)) → length (dotted (map (map part_of) labels)) ≤ 4 * length (labels_octets labels)
dotted_most [] = omega arith
dotted_most (label ∷ labels) =
    omega (arith, length-append (parts_text (map part_of label)) (46 ∷ dotted (map (map part_of) labels)), length-append label (labels_octets labels), parts_most label, dotted_most labels)

-- a written text has at most 1,016 bytes
pub text_most : (name : List (List ℕ)) → IsName name → length (text_form name) ≤ 1016
text_most [] h = omega arith
text_most (label ∷ labels) h = omega (arith, dotted_most (label ∷ labels), length_wire (label ∷ labels), h.most)

-- and so has each text that spells a name

spelled_parts : (parts : List Part) → length (parts_text parts) ≤ 4 * length parts
spelled_parts [] = omega arith
spelled_parts (part ∷ parts) = omega (arith, length-append (part_text part) (parts_text parts), part_most part, spelled_parts parts)

label_size : (parts : List Part) → length (label_of parts) ≡ length parts
label_size parts = length-map parts part_lower

spelled_labels : (labels : List (List Part)) → length (dotted labels) ≤ 4 * length (labels_octets (map label_of labels))
spelled_labels [] = omega arith
spelled_labels (parts ∷ labels) =
    omega (arith, length-append (parts_text parts) (46 ∷ dotted labels), length-append (label_of parts) (labels_octets (map label_of labels)), label_size parts, spelled_parts parts, spelled_labels labels)

end_most : (end : List ℕ) → (end ≡ []) ⊎ (end ≡ 46 ∷ []) → length end ≤ 1
end_most end (inl none) = omega (arith, ap length none)
end_most end (inr dot) = omega (arith, ap length dot)

joined_most : (x : List ℕ) (name : List (List ℕ)) → JoinsLabels x name → length x ≤ 1016
joined_most x name joins =
    let whole : length x ≡ length (dotted joins.labels) + length (parts_text joins.last ++ joins.end) = ap length joins.text ∙ length-append (dotted joins.labels) (parts_text joins.last ++ joins.end) in
    let octets : length (labels_octets name) ≡ length (labels_octets (map label_of joins.labels ++ label_of joins.last ∷ [])) = ap (λ ls. length (labels_octets ls)) joins.lower in
    omega (
      arith,
      whole,
      length-append (parts_text joins.last) joins.end,
      spelled_labels joins.labels,
      spelled_parts joins.last,
      label_size joins.last,
      end_most joins.end joins.final_dot,
      octets,
      length_octets_push (map label_of joins.labels) (label_of joins.last),
      length_wire name,
      joins.begin.most,
    )

spelled_most : (x : List ℕ) (name : List (List ℕ)) → SpellsText x name → length x ≤ 1016
spelled_most x name (inl dot) = omega (arith, ap length dot.0)
spelled_most x name (inr joins) = joined_most x name joins

-- so a longer text spells none
pub none_longer : (x : List ℕ) → 1016 < length x → None ≡ result_ok (read_text x)
none_longer x long = by_reading (read_text x) (λ name e. spelled_most x name (read_says x name e))
  where
    by_reading : (r : TextAnswer) → ((name : List (List ℕ)) → r ≡ Ok name → length x ≤ 1016) → None ≡ result_ok r
    by_reading (Ok name) most = absurd (omega (arith, long, most name refl))
    by_reading (Err at) most = refl
