-- Ids joined by commas, read byte by byte.
use Rattle.std.proofs.Common.{◌≡◌, ◌≢◌, ◌⊎◌, ℕ, ◌≤◌, Bool, true, false, cond, ◌||◌, nat_eq, nat_le, List, [], ◌∷◌, ◌++◌, length, drop, get_or, map, append_assoc, append-nil, Option, Some, None, refl, ap, sym, ◌∙◌, subst, arith, inl, inr}
use Rattle.std.specs.List.{join_with_byte}
use Rattle.dns_names.specs.Names.{AreBytes}
use Rattle.alt_base.proofs.Conjunctions.{both}
use Rattle.svcb_wire.specs.Forms.{IsId, AreIds}
use Rattle.dns_names.proofs.Bytes.{bytes_front, bytes_back}
use Rattle.alt_base.proofs.Numbers.{true_eq, false_eq, eq_false, true_le, le_true}
use Rattle.svcb_values.specs.ValueGrammar.{IdPart, Plain, Escaped, IsIdPart, AreIdParts, id_part_text, id_part_byte, id_text, IsIdText, AreIdTexts, SpellsIds}
use Rattle.svcb_values.specs.ValueReading.{is_id, is_escaped, with_id, ids_behind, read_ids}

-- one step of the reading
pub comma_on : (ids : List (List ℕ)) (id rest : List ℕ) → is_id id ≡ true → ids_behind ids id (44 ∷ rest) ≡ ids_behind (ids ++ id ∷ []) [] rest
comma_on ids id [] h = rw h refl
comma_on ids id (c ∷ rest) h = rw h refl

pub comma_none : (ids : List (List ℕ)) (id rest : List ℕ) → is_id id ≡ false → ids_behind ids id (44 ∷ rest) ≡ None
comma_none ids id [] h = rw h refl
comma_none ids id (c ∷ rest) h = rw h refl

pub escape_on : (ids : List (List ℕ)) (id rest : List ℕ) (c : ℕ) → is_escaped c ≡ true → ids_behind ids id (92 ∷ c ∷ rest) ≡ ids_behind ids (id ++ c ∷ []) rest
escape_on ids id rest c h = rw h refl

pub escape_none : (ids : List (List ℕ)) (id rest : List ℕ) (c : ℕ) → is_escaped c ≡ false → ids_behind ids id (92 ∷ c ∷ rest) ≡ None
escape_none ids id rest c h = rw h refl

pub byte_on : (ids : List (List ℕ)) (id rest : List ℕ) (b : ℕ) → b ≢ 44 → b ≢ 92 → ids_behind ids id (b ∷ rest) ≡ ids_behind ids (id ++ b ∷ []) rest
byte_on ids id [] b h k = rw (eq_false b 44 h, eq_false b 92 k) refl
byte_on ids id (c ∷ rest) b h k = rw (eq_false b 44 h, eq_false b 92 k) refl

-- what is spelled is read
escaped_test : (b : ℕ) → (b ≡ 44) ⊎ (b ≡ 92) → is_escaped b ≡ true
escaped_test b (inl comma) = ap is_escaped comma
escaped_test b (inr backslash) = ap is_escaped backslash

one_part : (part : IdPart) (ids : List (List ℕ)) (id rest : List ℕ) → IsIdPart part → ids_behind ids id (id_part_text part ++ rest) ≡ ids_behind ids (id ++ id_part_byte part ∷ []) rest
one_part (Plain b) ids id rest h = byte_on ids id rest b h.0 h.1
one_part (Escaped b) ids id rest h = escape_on ids id rest b (escaped_test b h)

parts_read : (parts : List IdPart) (ids : List (List ℕ)) (id rest : List ℕ) → AreIdParts parts → ids_behind ids id (id_text parts ++ rest) ≡ ids_behind ids (id ++ map id_part_byte parts) rest
parts_read [] ids id rest h = ap (λ xs. ids_behind ids xs rest) (sym (append-nil id))
parts_read (part ∷ parts) ids id rest h =
    ap (ids_behind ids id) (append_assoc (id_part_text part) (id_text parts) rest)
    ∙ one_part part ids id (id_text parts ++ rest) h.0
    ∙ parts_read parts ids (id ++ id_part_byte part ∷ []) rest h.1
    ∙ ap (λ xs. ids_behind ids xs rest) (append_assoc id (id_part_byte part ∷ []) (map id_part_byte parts))

bytes_count : (parts : List IdPart) → length (map id_part_byte parts) ≡ length parts
bytes_count [] = refl
bytes_count (part ∷ parts) = omega (arith, bytes_count parts)

id_test : (parts : List IdPart) → IsIdText parts → is_id (map id_part_byte parts) ≡ true
id_test parts s =
    rw (le_true 1 (length (map id_part_byte parts)) (omega (arith, bytes_count parts, s.some)), le_true (length (map id_part_byte parts)) 255 (omega (arith, bytes_count parts, s.most))) refl

last_read : (parts : List IdPart) (ids : List (List ℕ)) → IsIdText parts → ids_behind ids [] (id_text parts) ≡ Some (ids ++ map id_part_byte parts ∷ [])
last_read parts ids s =
    ap (ids_behind ids []) (sym (append-nil (id_text parts))) ∙ parts_read parts ids [] [] s.valid ∙ ap (λ t. cond t (Some (ids ++ map id_part_byte parts ∷ [])) None) (id_test parts s)

items_read : (items : List (List IdPart)) (ids : List (List ℕ)) → items ≢ [] → AreIdTexts items → ids_behind ids [] (join_with_byte 44 (map id_text items)) ≡ Some (ids ++ map (map id_part_byte) items)
items_read [] ids some h = absurd (some refl)
items_read (parts ∷ []) ids some h = last_read parts ids h.0
items_read (parts ∷ next ∷ items) ids some h =
    parts_read parts ids [] (44 ∷ join_with_byte 44 (map id_text (next ∷ items))) h.0.valid
    ∙ comma_on ids (map id_part_byte parts) (join_with_byte 44 (map id_text (next ∷ items))) (id_test parts h.0)
    ∙ items_read (next ∷ items) (ids ++ map id_part_byte parts ∷ []) (λ e. cc) h.1
    ∙ ap Some (append_assoc ids (map id_part_byte parts ∷ []) (map (map id_part_byte) (next ∷ items)))

pub ids_read : (text : List ℕ) (ids : List (List ℕ)) → SpellsIds text ids → read_ids text ≡ Some ids
ids_read text ids s = ap read_ids s.spelled ∙ items_read s.items [] s.some s.valid ∙ ap Some (sym s.value)

-- what is read is spelled: the rest of an id, and more ids
record IdsFrom (ids : List (List ℕ)) (id rest : List ℕ) (all : List (List ℕ)) : Type 0 where
  first : List IdPart
  more : List (List IdPart)
  valid : AreIdParts first
  whole : is_id (id ++ map id_part_byte first) ≡ true
  more_valid : AreIdTexts more
  spelled : rest ≡ join_with_byte 44 (map id_text (first ∷ more))
  value : all ≡ ids ++ (id ++ map id_part_byte first) ∷ map (map id_part_byte) more

some_ids : (xs ys : List (List ℕ)) → (let a : Option (List (List ℕ)) = Some xs in a) ≡ Some ys → ys ≡ xs
some_ids xs ys e = cc

at_end : (ids : List (List ℕ)) (id : List ℕ) (all : List (List ℕ)) → with_id ids id ≡ Some all → IdsFrom ids id [] all
at_end ids id all h = go (is_id id) refl h
  where
    go : (t : Bool) → is_id id ≡ t → cond t (Some (ids ++ id ∷ [])) None ≡ Some all → IdsFrom ids id [] all
    go false is e = cc
    go true is e = record {
      first = [];
      more = [];
      valid = tt;
      whole = ap is_id (append-nil id) ∙ is;
      more_valid = tt;
      spelled = refl;
      value = some_ids (ids ++ id ∷ []) all e ∙ ap (λ xs. ids ++ xs ∷ []) (sym (append-nil id));
    }

id_text_from : (parts : List IdPart) → AreIdParts parts → is_id (map id_part_byte parts) ≡ true → IsIdText parts
id_text_from parts valid is =
    let t = both (nat_le 1 (length (map id_part_byte parts))) (nat_le (length (map id_part_byte parts)) 255) is in
    record {
      valid = valid;
      some = omega (arith, bytes_count parts, true_le 1 (length (map id_part_byte parts)) t.0);
      most = omega (arith, bytes_count parts, true_le (length (map id_part_byte parts)) 255 t.1);
    }

-- behind a comma
behind_comma : (ids : List (List ℕ)) (id rest : List ℕ) (all : List (List ℕ)) → is_id id ≡ true → IdsFrom (ids ++ id ∷ []) [] rest all → IdsFrom ids id (44 ∷ rest) all
behind_comma ids id rest all is s = record {
  first = [];
  more = s.first ∷ s.more;
  valid = tt;
  whole = ap is_id (append-nil id) ∙ is;
  more_valid = (id_text_from s.first s.valid s.whole, s.more_valid);
  spelled = ap (λ xs. 44 ∷ xs) s.spelled;
  value = s.value ∙ append_assoc ids (id ∷ []) (map (map id_part_byte) (s.first ∷ s.more)) ∙ ap (λ xs. ids ++ xs ∷ map (map id_part_byte) (s.first ∷ s.more)) (sym (append-nil id));
}

joined_onto : (part : IdPart) (first : List IdPart) (more : List (List IdPart)) → id_part_text part ++ join_with_byte 44 (map id_text (first ∷ more)) ≡ join_with_byte 44 (map id_text ((part ∷ first) ∷ more))
joined_onto part first [] = refl
joined_onto part first (next ∷ more) = sym (append_assoc (id_part_text part) (id_text first) (44 ∷ join_with_byte 44 (map id_text (next ∷ more))))

-- with one part in front
behind_part : (part : IdPart) (ids : List (List ℕ)) (id rest : List ℕ) (all : List (List ℕ)) → IsIdPart part → IdsFrom ids (id ++ id_part_byte part ∷ []) rest all → IdsFrom ids id (id_part_text part ++ rest) all
behind_part part ids id rest all is s =
    let regroup = append_assoc id (id_part_byte part ∷ []) (map id_part_byte s.first) in
    record {
      first = part ∷ s.first;
      more = s.more;
      valid = (is, s.valid);
      whole = ap is_id (sym regroup) ∙ s.whole;
      more_valid = s.more_valid;
      spelled = ap (λ xs. id_part_text part ++ xs) s.spelled ∙ joined_onto part s.first s.more;
      value = s.value ∙ ap (λ xs. ids ++ xs ∷ map (map id_part_byte) s.more) regroup;
    }

escaped_is : (c : ℕ) → is_escaped c ≡ true → (c ≡ 44) ⊎ (c ≡ 92)
escaped_is c h = go (nat_eq c 44) (nat_eq c 92) refl refl h
  where
    go : (s t : Bool) → nat_eq c 44 ≡ s → nat_eq c 92 ≡ t → (s || t) ≡ true → (c ≡ 44) ⊎ (c ≡ 92)
    go true t p q e = inl (true_eq c 44 p)
    go false true p q e = inr (true_eq c 92 q)
    go false false p q e = cc

-- what is read of a text is spelled
abbrev Says : List ℕ → Type 0
Says rest = (ids : List (List ℕ)) (id : List ℕ) (all : List (List ℕ)) → ids_behind ids id rest ≡ Some all → IdsFrom ids id rest all

no_some : (o : Option (List (List ℕ))) (all : List (List ℕ)) → o ≡ None → o ≡ Some all → ⊥
no_some o all h k = cc

comma_says : (rest : List ℕ) → Says rest → Says (44 ∷ rest)
comma_says rest later ids id all h = go (is_id id) refl
  where
    go : (t : Bool) → is_id id ≡ t → IdsFrom ids id (44 ∷ rest) all
    go true is = behind_comma ids id rest all is (later (ids ++ id ∷ []) [] all (sym (comma_on ids id rest is) ∙ h))
    go false is = absurd (no_some (ids_behind ids id (44 ∷ rest)) all (comma_none ids id rest is) h)

escape_says : (c : ℕ) (rest : List ℕ) → Says rest → Says (92 ∷ c ∷ rest)
escape_says c rest later ids id all h = go (is_escaped c) refl
  where
    go : (t : Bool) → is_escaped c ≡ t → IdsFrom ids id (92 ∷ c ∷ rest) all
    go true is = behind_part (Escaped c) ids id rest all (escaped_is c is) (later ids (id ++ c ∷ []) all (sym (escape_on ids id rest c is) ∙ h))
    go false is = absurd (no_some (ids_behind ids id (92 ∷ c ∷ rest)) all (escape_none ids id rest c is) h)

byte_says : (b : ℕ) (rest : List ℕ) → Says rest → Says (92 ∷ rest) → Says (b ∷ rest)
byte_says b rest later escape = go (nat_eq b 44) (nat_eq b 92) refl refl
  where
    go : (s t : Bool) → nat_eq b 44 ≡ s → nat_eq b 92 ≡ t → Says (b ∷ rest)
    go true t p q = subst (λ c. Says (c ∷ rest)) (sym (true_eq b 44 p)) (comma_says rest later)
    go false true p q = subst (λ c. Says (c ∷ rest)) (sym (true_eq b 92 q)) escape
    go false false p q = λ ids id all h.
        let other = false_eq b 44 p in
        let another = false_eq b 92 q in
        behind_part (Plain b) ids id rest all (other, another) (later ids (id ++ b ∷ []) all (sym (byte_on ids id rest b other another) ∙ h))

lone_escape : Says (92 ∷ [])
lone_escape ids id all h = absurd (no_some (ids_behind ids id (92 ∷ [])) all refl h)

ids_says : (rest : List ℕ) → Says rest
ids_says [] = λ ids id all h. at_end ids id all h
ids_says (b ∷ []) = byte_says b [] (λ ids id all h. at_end ids id all h) lone_escape
ids_says (b ∷ c ∷ rest) = byte_says b (c ∷ rest) (ids_says (c ∷ rest)) (escape_says c rest (ids_says rest))

pub ids_spell : (text : List ℕ) (ids : List (List ℕ)) → read_ids text ≡ Some ids → SpellsIds text ids
ids_spell text ids h =
    let s = ids_says text [] [] ids h in
    record {
      items = s.first ∷ s.more;
      some = λ none. none_left s.first s.more none;
      valid = (id_text_from s.first s.valid s.whole, s.more_valid);
      spelled = s.spelled;
      value = s.value;
    }
  where
    none_left : (first : List IdPart) (more : List (List IdPart)) → first ∷ more ≡ [] → ⊥
    none_left first more e = cc

-- their form
part_bytes : (parts : List IdPart) → AreBytes (id_text parts) → AreBytes (map id_part_byte parts)
part_bytes [] h = tt
part_bytes (Plain b ∷ parts) h = (h.0, part_bytes parts h.1)
part_bytes (Escaped b ∷ parts) h = (h.1.0, part_bytes parts h.1.1)

one_form : (parts : List IdPart) → IsIdText parts → AreBytes (id_text parts) → IsId (map id_part_byte parts)
one_form parts s bytes = record { some = omega (arith, bytes_count parts, s.some); most = omega (arith, bytes_count parts, s.most); bytes = part_bytes parts bytes }

items_form : (items : List (List IdPart)) → AreIdTexts items → AreBytes (join_with_byte 44 (map id_text items)) → AreIds (map (map id_part_byte) items)
items_form [] h bytes = tt
items_form (parts ∷ []) h bytes = (one_form parts h.0 bytes, tt)
items_form (parts ∷ next ∷ items) h bytes = (
  one_form parts h.0 (bytes_front (id_text parts) (44 ∷ join_with_byte 44 (map id_text (next ∷ items))) bytes),
  items_form (next ∷ items) h.1 (bytes_back (id_text parts) (44 ∷ join_with_byte 44 (map id_text (next ∷ items))) bytes).1,
)

items_count : (items : List (List IdPart)) → items ≢ [] → 1 ≤ length (map (map id_part_byte) items)
items_count [] some = absurd (some refl)
items_count (parts ∷ items) some = omega arith

pub ids_form : (text : List ℕ) (ids : List (List ℕ)) → AreBytes text → SpellsIds text ids → (1 ≤ length ids) × AreIds ids
ids_form text ids bytes s =
    subst (λ is. (1 ≤ length is) × AreIds is) (sym s.value) (items_count s.items s.some, items_form s.items s.valid (subst AreBytes s.spelled bytes))

-- the loop: one step on
pub comma_step : (ids new : List (List ℕ)) (id none x rest text : List ℕ) → 1 ≤ length x → get_or x 0 0 ≡ 44 → is_id id ≡ true → new ≡ ids ++ id ∷ [] → none ≡ [] → rest ≡ drop 1 x
    → ids_behind ids id x ≡ read_ids text → ids_behind new none rest ≡ read_ids text
comma_step ids new id none [] rest text some byte is pushed empty behind so_far = absurd (omega arith)
comma_step ids new id none (b ∷ bs) rest text some byte is pushed empty behind so_far =
    rw (pushed, empty, behind) (sym (comma_on ids id bs is) ∙ ap (λ c. ids_behind ids id (c ∷ bs)) (sym byte) ∙ so_far)

pub byte_step : (ids : List (List ℕ)) (id new x rest text : List ℕ) → 1 ≤ length x → get_or x 0 0 ≢ 44 → get_or x 0 0 ≢ 92 → new ≡ id ++ get_or x 0 0 ∷ [] → rest ≡ drop 1 x
    → ids_behind ids id x ≡ read_ids text → ids_behind ids new rest ≡ read_ids text
byte_step ids id new [] rest text some no_comma no_escape pushed behind so_far = absurd (omega arith)
byte_step ids id new (b ∷ bs) rest text some no_comma no_escape pushed behind so_far = rw (pushed, behind) (sym (byte_on ids id bs b no_comma no_escape) ∙ so_far)

pub escape_step : (ids : List (List ℕ)) (id new x next rest text : List ℕ) → 1 ≤ length x → get_or x 0 0 ≡ 92 → next ≡ drop 1 x → 1 ≤ length next → is_escaped (get_or next 0 0) ≡ true → new ≡ id ++ get_or next 0 0 ∷ [] → rest ≡ drop 1 next
    → ids_behind ids id x ≡ read_ids text → ids_behind ids new rest ≡ read_ids text
escape_step ids id new [] next rest text some byte is more escaped pushed behind so_far = absurd (omega arith)
escape_step ids id new (a ∷ bs) [] rest text some byte is more escaped pushed behind so_far = absurd (omega arith)
escape_step ids id new (a ∷ bs) (c ∷ cs) rest text some byte is more escaped pushed behind so_far =
    rw (pushed, behind) (sym (escape_on ids id cs c escaped) ∙ ap (λ xs. ids_behind ids id (92 ∷ xs)) is ∙ ap (λ b. ids_behind ids id (b ∷ bs)) (sym byte) ∙ so_far)
