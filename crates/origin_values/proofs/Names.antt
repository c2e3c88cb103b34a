-- The reading of a host's name against its grammar.
use Rattle.std.proofs.Common.{◌≡◌, ℕ, suc, ◌+◌, None, Some, map, append-nil, decimal, ◌||◌, ap₂, ◌<◌, ◌≤◌, Bool, true, false, ◌&&◌, not, cond, nat_eq, nat_lt, nat_le, List, [], ◌∷◌, ◌++◌, length, refl, ap, sym, ◌∙◌, subst, arith}
use Rattle.std.specs.List.{list_all, join_with_byte}
use Rattle.std.specs.Char.{is_ascii_digit, digit_value, to_ascii_lowercase}
use Rattle.std.specs.Str.Parse.{AllDigits}
use Rattle.std.specs.Net.Grammar.{IsDotted}
use Rattle.std.proofs.lemmas.Str.Parse.{digit_from_value}
use Rattle.std.proofs.lemmas.Fmt.{decimal_is_IsNumeral, length-decimal-le}
use Rattle.alt_base.specs.Classes.{in_ranges, host_name_class}
use Rattle.origin_values.specs.HostGrammar.{AreLabels, SpellsName}
use Rattle.origin_values.specs.HostReading.{are_labels, is_name, read_name}
use Rattle.alt_base.proofs.Conjunctions.{both}
use Rattle.std.proofs.lemmas.Bool.{and_from, and_right, not-true}
use Rattle.alt_base.proofs.Numbers.{true_eq, true_lt, lt_true, true_le, le_true}
use Rattle.std.proofs.Math.Bool.{and_assoc}
use Rattle.alt_base.proofs.Digits.{dotted_assoc}

-- a byte of a label
abbrev of_label : ℕ → Bool
of_label b = in_ranges host_name_class b

-- a label of which count bytes went before
record IsPiece (count : ℕ) (piece : List ℕ) : Type 0 where
  some : 0 < count + length piece
  short : count + length piece ≤ 63
  allowed : list_all of_label piece ≡ true

-- such a label and those behind it
abbrev Follow : ℕ → Bool → List ℕ → List (List ℕ) → Type 0
Follow count digits piece [] = IsPiece count piece × ((digits && list_all is_ascii_digit piece) ≡ false)
Follow count digits piece (next ∷ labels) = IsPiece count piece × AreLabels (next ∷ labels)

-- no dot is a byte of a label
no_dot : (b : ℕ) → of_label b ≡ true → nat_eq b 46 ≡ false
no_dot b h = go (nat_eq b 46) refl
  where
    go : (t : Bool) → nat_eq b 46 ≡ t → t ≡ false
    go false is = refl
    go true is = absurd (clash (subst (λ c. of_label c ≡ true) (true_eq b 46 is) h))
      where
        clash : false ≡ true → ⊥
        clash e = cc

-- what the reading takes is a label and those behind it
abbrev Labelled : ℕ → Bool → List ℕ → Type 0
Labelled count digits text = (piece : List ℕ) × (labels : List (List ℕ)) × (text ≡ join_with_byte 46 (piece ∷ labels)) × Follow count digits piece labels

-- a dot ends a label of which some bytes went before
at_dot : (count : ℕ) (digits : Bool) (piece : List ℕ) (labels : List (List ℕ)) → 0 < count → count ≤ 63 → Follow 0 true piece labels → Follow count digits [] (piece ∷ labels)
at_dot count digits piece [] some short follow =
    (record { some = omega arith; short = omega arith; allowed = refl }, (record { some = omega (arith, follow.0.some); short = omega (arith, follow.0.short); allowed = follow.0.allowed }, follow.1))
at_dot count digits piece (next ∷ more) some short follow =
    (record { some = omega arith; short = omega arith; allowed = refl }, (record { some = omega (arith, follow.0.some); short = omega (arith, follow.0.short); allowed = follow.0.allowed }, follow.1))

-- one byte more of a label
piece_more : (count b : ℕ) (piece : List ℕ) → of_label b ≡ true → IsPiece (count + 1) piece → IsPiece count (b ∷ piece)
piece_more count b piece allowed h = record { some = omega arith; short = omega (arith, h.short); allowed = rw allowed h.allowed }

onto : (count b : ℕ) (digits : Bool) (piece : List ℕ) (labels : List (List ℕ)) → of_label b ≡ true → Follow (count + 1) (digits && is_ascii_digit b) piece labels → Follow count digits (b ∷ piece) labels
onto count b digits piece [] allowed follow = (piece_more count b piece allowed follow.0, sym (and_assoc digits (is_ascii_digit b) (list_all is_ascii_digit piece)) ∙ follow.1)
onto count b digits piece (next ∷ more) allowed follow = (piece_more count b piece allowed follow.0, follow.1)

join_onto : (b : ℕ) (piece : List ℕ) (labels : List (List ℕ)) → b ∷ join_with_byte 46 (piece ∷ labels) ≡ join_with_byte 46 ((b ∷ piece) ∷ labels)
join_onto b piece [] = refl
join_onto b piece (next ∷ more) = refl

and_true : (a : Bool) → a ≡ false → (a && true) ≡ false
and_true a h = rw h refl

labels_sound : (text : List ℕ) (count : ℕ) (digits : Bool) → count ≤ 63 → are_labels count digits text ≡ true → Labelled count digits text
labels_sound [] count digits short h =
    let t = both (nat_lt 0 count) (not digits) h in
    let some = true_lt 0 count t.0 in
    ([], [], refl, (record { some = omega arith; short = omega arith; allowed = refl }, and_true digits (not-true digits t.1)))
labels_sound (b ∷ bs) count digits short h = go (λ n d. labels_sound bs n d) (nat_eq b 46) refl h
  where
    go : ((n : ℕ) (d : Bool) → n ≤ 63 → are_labels n d bs ≡ true → Labelled n d bs) → (dot : Bool) → nat_eq b 46 ≡ dot → cond dot (nat_lt 0 count && are_labels 0 true bs) (nat_lt count 63 && (of_label b && are_labels (count + 1) (digits && is_ascii_digit b) bs)) ≡ true → Labelled count digits (b ∷ bs)
    go later true is e =
        let t = both (nat_lt 0 count) (are_labels 0 true bs) e in
        let s = later 0 true (omega arith) t.1 in
        ([], s.0 ∷ s.1, ap (λ c. c ∷ bs) (true_eq b 46 is) ∙ ap (λ xs. 46 ∷ xs) s.2, at_dot count digits s.0 s.1 (true_lt 0 count t.0) short s.3)
    go later false is e =
        let t = both (nat_lt count 63) (of_label b && are_labels (count + 1) (digits && is_ascii_digit b) bs) e in
        let u = both (of_label b) (are_labels (count + 1) (digits && is_ascii_digit b) bs) t.1 in
        let room = true_lt count 63 t.0 in
        let s = later (count + 1) (digits && is_ascii_digit b) (omega arith) u.1 in
        (b ∷ s.0, s.1, ap (λ xs. b ∷ xs) s.2 ∙ join_onto b s.0 s.1, onto count b digits s.0 s.1 u.0 s.3)

as_labels : (piece : List ℕ) (labels : List (List ℕ)) → Follow 0 true piece labels → AreLabels (piece ∷ labels)
as_labels piece [] follow = (record { some = omega (arith, follow.0.some); short = omega (arith, follow.0.short); allowed = follow.0.allowed }, follow.1)
as_labels piece (next ∷ more) follow = (record { some = omega (arith, follow.0.some); short = omega (arith, follow.0.short); allowed = follow.0.allowed }, follow.1)

as_follow : (piece : List ℕ) (labels : List (List ℕ)) → AreLabels (piece ∷ labels) → Follow 0 true piece labels
as_follow piece [] h = (record { some = omega (arith, h.0.some); short = omega (arith, h.0.short); allowed = h.0.allowed }, h.1)
as_follow piece (next ∷ more) h = (record { some = omega (arith, h.0.some); short = omega (arith, h.0.short); allowed = h.0.allowed }, h.1)

-- the bytes of a label are passed over
through : (piece tail : List ℕ) (count : ℕ) (digits : Bool) → list_all of_label piece ≡ true → count + length piece ≤ 63
    → are_labels count digits (piece ++ tail) ≡ are_labels (count + length piece) (digits && list_all is_ascii_digit piece) tail
through [] tail count digits allowed short = ap₂ (λ n d. are_labels n d tail) (plus_zero count) (sym (and_one digits))
  where
    plus_zero : (n : ℕ) → n ≡ n + 0
    plus_zero n = omega arith

    and_one : (a : Bool) → (a && true) ≡ a
    and_one true = refl
    and_one false = refl
through (b ∷ piece) tail count digits allowed short =
    let t = both (of_label b) (list_all of_label piece) allowed in
    rw (no_dot b t.0, lt_true count 63 (omega arith), t.0)
    (through piece tail (count + 1) (digits && is_ascii_digit b) t.1 (omega arith)
    ∙ ap₂ (λ n d. are_labels n d tail) (moved count (length piece)) (and_assoc digits (is_ascii_digit b) (list_all is_ascii_digit piece)))
  where
    moved : (n m : ℕ) → (n + 1) + m ≡ n + suc m
    moved n m = omega arith

labels_complete : (labels : List (List ℕ)) (piece : List ℕ) (count : ℕ) (digits : Bool) → Follow count digits piece labels → are_labels count digits (join_with_byte 46 (piece ∷ labels)) ≡ true
labels_complete [] piece count digits follow =
    ap (are_labels count digits) (sym (append-nil piece)) ∙ through piece [] count digits follow.0.allowed follow.0.short
    ∙ rw (lt_true 0 (count + length piece) follow.0.some, follow.1) refl
labels_complete (next ∷ more) piece count digits follow =
    through piece (46 ∷ join_with_byte 46 (next ∷ more)) count digits follow.0.allowed follow.0.short
    ∙ rw (lt_true 0 (count + length piece) follow.0.some) (labels_complete more next 0 true (as_follow next more follow.1))

some_name : (test : Bool) (xs ys : List ℕ) → cond test (Some xs) None ≡ Some ys → (test ≡ true) × (ys ≡ xs)
some_name true xs ys h = (refl, cc)
some_name false xs ys h = cc

pub read_name_sound : (text name : List ℕ) → read_name text ≡ Some name → SpellsName text name
read_name_sound text name h =
    let (is, value) = some_name (is_name text) (map to_ascii_lowercase text) name h in
    let t = both (nat_le (length text) 253) (are_labels 0 true text) is in
    let s = labels_sound text 0 true (omega arith) t.1 in
    record {
      labels = s.0 ∷ s.1;
      are_labels = as_labels s.0 s.1 s.3;
      spelled = s.2;
      short = true_le (length text) 253 t.0;
      value = value;
    }

labels_read : (labels : List (List ℕ)) → AreLabels labels → are_labels 0 true (join_with_byte 46 labels) ≡ true
labels_read [] h = absurd h
labels_read (piece ∷ more) h = labels_complete more piece 0 true (as_follow piece more h)

pub read_name_complete : (text name : List ℕ) → SpellsName text name → read_name text ≡ Some name
read_name_complete text name s =
    let labels : are_labels 0 true text ≡ true = ap (are_labels 0 true) s.spelled ∙ labels_read s.labels s.are_labels in
    rw (le_true (length text) 253 s.short, labels) (ap Some (sym s.value))

-- what the reading of labels says of a name's text
pub name_labels : (text name : List ℕ) → SpellsName text name → are_labels 0 true text ≡ true
name_labels text name s = ap (are_labels 0 true) s.spelled ∙ labels_read s.labels s.are_labels

or_left : (a b c : Bool) → b ≡ true → (a || (b || c)) ≡ true
or_left true b c h = refl
or_left false b c h = rw h refl

digit_of_label : (c : ℕ) → digit_value c < 10 → (is_ascii_digit c ≡ true) × (of_label c ≡ true)
digit_of_label c h =
    let range = digit_from_value c h in
    let within : (nat_le 48 c && nat_le c 57) ≡ true = and_from _ _ (le_true 48 c range.0) (le_true c 57 range.1) in
    (within, or_left _ _ _ within)

digits_of_label : (ds : List ℕ) → AllDigits 10 ds → (list_all is_ascii_digit ds ≡ true) × (list_all of_label ds ≡ true)
digits_of_label [] h = (refl, refl)
digits_of_label (c ∷ ds) h =
    let first = digit_of_label c h.0 in
    let rest = digits_of_label ds h.1 in
    (and_from _ _ first.0 rest.0, and_from _ _ first.1 rest.1)

-- a decimal number of a byte before a dot, and at the end
digits_at_dot : (n : ℕ) (rest : List ℕ) → n < 256 → are_labels 0 true rest ≡ false → are_labels 0 true (decimal n ++ 46 ∷ rest) ≡ false
digits_at_dot n rest small h =
    let digits = digits_of_label (decimal n) (decimal_is_IsNumeral n (omega arith)).0.1 in
    let short = length-decimal-le 3 n (omega arith) (omega arith) (omega arith) in
    through (decimal n) (46 ∷ rest) 0 true digits.1 (omega arith) ∙ and_right _ _ h

digits_at_end : (n : ℕ) → n < 256 → are_labels 0 true (decimal n) ≡ false
digits_at_end n small =
    let digits = digits_of_label (decimal n) (decimal_is_IsNumeral n (omega arith)).0.1 in
    let short = length-decimal-le 3 n (omega arith) (omega arith) (omega arith) in
    ap (are_labels 0 true) (sym (append-nil (decimal n))) ∙ through (decimal n) [] 0 true digits.1 (omega arith)
    ∙ and_right _ _ (ap not digits.0)

-- no text is an IPv4 address and a name
pub no_v4_and_name : (text bytes name : List ℕ) → IsDotted text bytes → SpellsName text name → ⊥
no_v4_and_name text bytes name four named =
    let digits : are_labels 0 true text ≡ false =
    ap (are_labels 0 true) (four.spelled ∙ dotted_assoc four.a four.b four.c four.d)
    ∙ digits_at_dot four.a _ four.fit.0 (digits_at_dot four.b _ four.fit.1 (digits_at_dot four.c _ four.fit.2 (digits_at_end four.d four.fit.3))) in
    true_false (sym (name_labels text name named) ∙ digits)
  where
    true_false : true ≡ false → ⊥
    true_false e = cc
