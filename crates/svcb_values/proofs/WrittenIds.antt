-- What is written for protocol ids spells them.
use Rattle.std.proofs.Common.{◌≡◌, ◌≢◌, ◌⊎◌, ℕ, ◌≤◌, Bool, true, false, cond, nat_eq, List, [], ◌∷◌, ◌++◌, length, map, refl, ap, sym, ◌∙◌, arith, inl, inr}
use Rattle.std.specs.List.{join_with_byte}
use Rattle.dns_names.specs.Names.{AreBytes}
use Rattle.dns_names.proofs.Bytes.{bytes_both}
use Rattle.alt_base.proofs.Numbers.{true_eq, false_eq}
use Rattle.svcb_wire.specs.Forms.{IsId, AreIds}
use Rattle.svcb_values.specs.ValueReading.{is_escaped}
use Rattle.svcb_values.specs.ValueGrammar.{IdPart, Plain, Escaped, IsIdPart, AreIdParts, id_part_text, id_part_byte, id_text, IsIdText, AreIdTexts, SpellsIds}
use Rattle.svcb_values.specs.Written.{id_written}
use Rattle.std.proofs.lemmas.Bool.{or_cases, or_parts}

abbrev id_part : ℕ → IdPart
id_part b = cond (is_escaped b) (Escaped b) (Plain b)

abbrev id_parts : List ℕ → List IdPart
id_parts id = map id_part id

-- what is written for a byte is a part that stands for it
record IsWrittenPart (b : ℕ) (part : IdPart) (more text : List ℕ) : Type 0 where
  valid : IsIdPart part
  spells : id_part_byte part ≡ b
  stands : id_part_text part ++ more ≡ text

escaped_part : (b : ℕ) → (nat_eq b 44 ≡ true) ⊎ (nat_eq b 92 ≡ true) → IsIdPart (Escaped b)
escaped_part b (inl e) = inl (true_eq b 44 e)
escaped_part b (inr e) = inr (true_eq b 92 e)

plain_part : (b : ℕ) → (nat_eq b 44 ≡ false) × (nat_eq b 92 ≡ false) → IsIdPart (Plain b)
plain_part b e = (false_eq b 44 e.0, false_eq b 92 e.1)

part_written : (b : ℕ) (more : List ℕ) → IsWrittenPart b (id_part b) more (cond (is_escaped b) (92 ∷ b ∷ more) (b ∷ more))
part_written b more = go (is_escaped b) refl
  where
    go : (t : Bool) → is_escaped b ≡ t → IsWrittenPart b (cond t (Escaped b) (Plain b)) more (cond t (92 ∷ b ∷ more) (b ∷ more))
    go true is = record { valid = escaped_part b (or_cases (nat_eq b 44) (nat_eq b 92) is); spells = refl; stands = refl }
    go false is = record { valid = plain_part b (or_parts (nat_eq b 44) (nat_eq b 92) is); spells = refl; stands = refl }

parts_valid : (id : List ℕ) → AreIdParts (id_parts id)
parts_valid [] = tt
parts_valid (b ∷ bs) = ((part_written b []).valid, parts_valid bs)

parts_text : (id : List ℕ) → id_text (id_parts id) ≡ id_written id
parts_text [] = refl
parts_text (b ∷ bs) = ap (λ xs. id_part_text (id_part b) ++ xs) (parts_text bs) ∙ (part_written b (id_written bs)).stands

parts_bytes : (id : List ℕ) → map id_part_byte (id_parts id) ≡ id
parts_bytes [] = refl
parts_bytes (b ∷ bs) = cons _ _ _ _ ((part_written b []).spells) (parts_bytes bs)
  where
    cons : (a b : ℕ) (xs ys : List ℕ) → a ≡ b → xs ≡ ys → a ∷ xs ≡ b ∷ ys
    cons a b xs ys e f = cc

parts_count : (id : List ℕ) → length (id_parts id) ≡ length id
parts_count [] = refl
parts_count (b ∷ bs) = omega (arith, parts_count bs)

one_id : (id : List ℕ) → IsId id → IsIdText (id_parts id)
one_id id h = record { valid = parts_valid id; some = omega (arith, parts_count id, h.some); most = omega (arith, parts_count id, h.most) }

ids_valid : (ids : List (List ℕ)) → AreIds ids → AreIdTexts (map id_parts ids)
ids_valid [] h = tt
ids_valid (id ∷ ids) h = (one_id id h.0, ids_valid ids h.1)

ids_texts : (ids : List (List ℕ)) → map id_text (map id_parts ids) ≡ map id_written ids
ids_texts [] = refl
ids_texts (id ∷ ids) = cons _ _ _ _ (parts_text id) (ids_texts ids)
  where
    cons : (x y : List ℕ) (xs ys : List (List ℕ)) → x ≡ y → xs ≡ ys → x ∷ xs ≡ y ∷ ys
    cons x y xs ys e f = cc

ids_meant : (ids : List (List ℕ)) → map (map id_part_byte) (map id_parts ids) ≡ ids
ids_meant [] = refl
ids_meant (id ∷ ids) = cons _ _ _ _ (parts_bytes id) (ids_meant ids)
  where
    cons : (x y : List ℕ) (xs ys : List (List ℕ)) → x ≡ y → xs ≡ ys → x ∷ xs ≡ y ∷ ys
    cons x y xs ys e f = cc

some_items : (ids : List (List ℕ)) → 1 ≤ length ids → map id_parts ids ≢ []
some_items [] h e = absurd (omega arith)
some_items (id ∷ ids) h e = cc

pub ids_spelled : (ids : List (List ℕ)) → 1 ≤ length ids → AreIds ids → SpellsIds (join_with_byte 44 (map id_written ids)) ids
ids_spelled ids some are = record {
  items = map id_parts ids;
  some = some_items ids some;
  valid = ids_valid ids are;
  spelled = ap (join_with_byte 44) (sym (ids_texts ids));
  value = sym (ids_meant ids);
}

-- it has bytes alone
id_bytes : (id : List ℕ) → AreBytes id → AreBytes (id_written id)
id_bytes [] h = tt
id_bytes (b ∷ bs) h = go (is_escaped b) (id_bytes bs h.1)
  where
    go : (t : Bool) → AreBytes (id_written bs) → AreBytes (cond t (92 ∷ b ∷ id_written bs) (b ∷ id_written bs))
    go true rest = (omega arith, (h.0, rest))
    go false rest = (h.0, rest)

pub ids_bytes : (ids : List (List ℕ)) → AreIds ids → AreBytes (join_with_byte 44 (map id_written ids))
ids_bytes [] h = tt
ids_bytes (id ∷ []) h = id_bytes id h.0.bytes
ids_bytes (id ∷ next ∷ ids) h =
    let rest : AreBytes (44 ∷ join_with_byte 44 (map id_written (next ∷ ids))) = (omega arith, ids_bytes (next ∷ ids) h.1) in
    bytes_both (id_written id) (44 ∷ join_with_byte 44 (map id_written (next ∷ ids))) (id_bytes id h.0.bytes) rest
