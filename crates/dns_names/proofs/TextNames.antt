-- What is read from a text is a name, and a name is read back.
use Rattle.std.proofs.Common.{◌≡◌, ◌≢◌, ℕ, ◌+◌, ◌/◌, ◌%◌, ◌<◌, Bool, true, false, cond, ◌||◌, nat_eq, ◌⊎◌, List, [], ◌∷◌, ◌++◌, map, Result, Ok, Err, refl, ap, sym, ◌∙◌, subst, arith, inl, inr, lit≤}
use Rattle.std.proofs.lemmas.List.{map_push}
use Rattle.std.proofs.lemmas.Bool.Decides.{nat_tests}
use Rattle.std.proofs.lemmas.Str.Ascii.{lowercase-lowercase}
use Rattle.std.specs.Char.{to_ascii_lowercase, is_ascii_digit, is_ascii_graphic}
use Rattle.alt_base.specs.declared.refusal.Refused.{Refused}
use Rattle.alt_base.specs.declared.refusal.Refused.TheVariants.{NoMemory, At as RefusedThere}
use Rattle.dns_names.specs.declared.refusal.NameRefusal.{NameRefusal}
use Rattle.alt_base.specs.Answers.{refused, Answers, IfRefused}
use Rattle.dns_names.specs.Names.{IsNameByte, AreNameBytes, AreSized, AreLabels, IsName}
use Rattle.dns_names.specs.TextParts.{Part, Raw, Quoted, Decimal, decimal_value, part_byte, part_lower, IsPart, AreParts, label_of, dotted, AreAllParts, is_special, part_of, text_form}
use Rattle.dns_names.specs.TextGrammar.{JoinsLabels, SpellsText, TextRefusedAt}
use Rattle.dns_names.specs.TextReading.{read_text}
use Rattle.alt_base.proofs.Numbers.{true_eq}
use Rattle.dns_names.proofs.NamesOf.{lower_bound, name_begins}
use Rattle.dns_names.proofs.TextSays.{TextSays, text_says, dotted_push, all_push, all_last, last_of}
use Rattle.dns_names.proofs.TextSpelled.{spelled_reads}
use Rattle.std.proofs.lemmas.Bool.{or_cases}
use Rattle.alt_base.proofs.Digits.{digit_shown}
use Rattle.alt_base.proofs.Booleans.{contradicts}

pub read_says : (x : List ℕ) (name : List (List ℕ)) → read_text x ≡ Ok name → SpellsText x name
read_says x name e = subst (TextSays x) e (text_says x)

pub refusal_says : (x : List ℕ) (q : ℕ) (reason : NameRefusal) → read_text x ≡ refused q reason → TextRefusedAt x q reason
refusal_says x q reason e = subst (TextSays x) e (text_says x)

-- a refusal that is answered is one of the table
pub refused_by : (r : Result (List (List ℕ)) (Refused NameRefusal)) (x : List ℕ) → Answers r (read_text x) → IfRefused r (TextRefusedAt x)
refused_by (Ok value) x h = tt
refused_by (Err NoMemory) x h = tt
refused_by (Err (RefusedThere place reason)) x h = refusal_says x place reason h

shown_bound : (b : ℕ) → is_ascii_graphic b ≡ true → b < 256
shown_bound b h = grind (arith, nat_tests)

part_bound : (part : Part) → IsPart part → part_byte part < 256
part_bound (Raw b) valid = shown_bound b valid.0
part_bound (Quoted b) valid = shown_bound b valid.0
part_bound (Decimal a b c) valid = omega (arith, valid.3)

parts_bytes : (parts : List Part) → AreParts parts → AreNameBytes (label_of parts)
parts_bytes [] valid = tt
parts_bytes (part ∷ parts) valid =
    (record { byte = lower_bound (part_byte part) (part_bound part valid.0); lower = lowercase-lowercase (part_byte part) }, parts_bytes parts valid.1)

parts_labels : (labels : List (List Part)) → AreAllParts labels → AreSized (map label_of labels) → AreLabels (map label_of labels)
parts_labels [] valid sized = tt
parts_labels (parts ∷ labels) valid sized = (record { sized = sized.0; bytes = parts_bytes parts valid.0 }, parts_labels labels valid.1 sized.1)

joins_name : (x : List ℕ) (name : List (List ℕ)) → JoinsLabels x name → IsName name
joins_name x name j =
    let all : map label_of (j.labels ++ j.last ∷ []) ≡ name = map_push label_of j.labels j.last ∙ sym j.lower in
    record {
      labels_are = subst AreLabels all (parts_labels (j.labels ++ j.last ∷ []) (all_push j.labels j.last j.valid j.last_valid) (subst AreSized (sym all) j.begin.sized));
      most = j.begin.most;
    }

-- what a text spells is a name
pub spelled_name : (x : List ℕ) (name : List (List ℕ)) → SpellsText x name → IsName name
spelled_name x name (inl root) = subst IsName (sym root.1) (record { labels_are = tt; most = lit≤ tt })
spelled_name x name (inr j) = joins_name x name j

pub read_name : (x : List ℕ) (name : List (List ℕ)) → read_text x ≡ Ok name → IsName name
read_name x name e = spelled_name x name (read_says x name e)

-- a shown byte that is no digit
abbrev IsMark : ℕ → Type 0
IsMark b = (is_ascii_graphic b ≡ true) × (is_ascii_digit b ≡ false)

mark_or : (b n : ℕ) (rest : Bool) → IsMark n → (rest ≡ true → IsMark b) → (nat_eq b n || rest) ≡ true → IsMark b
mark_or b n rest mark next h = by (or_cases (nat_eq b n) rest h)
  where
    by : (nat_eq b n ≡ true) ⊎ (rest ≡ true) → IsMark b
    by (inl e) = subst IsMark (sym (true_eq b n e)) mark
    by (inr e) = next e

special_mark : (b : ℕ) → is_special b ≡ true → IsMark b
special_mark b =
    mark_or b 34 _ (refl, refl) (mark_or b 36 _ (refl, refl) (mark_or b 40 _ (refl, refl) (mark_or b 41 _ (refl, refl) (mark_or b 46 _ (refl, refl) (mark_or b 59 _ (refl, refl) (mark_or b 64 _ (refl, refl) (λ e. subst IsMark (sym (true_eq b 92 e)) (refl, refl))))))))

not_special : (b n : ℕ) → is_special b ≡ false → is_special n ≡ true → b ≢ n
not_special b n h special e = contradicts (is_special n) special (subst (λ m. is_special m ≡ false) e h)

-- the three digits of a byte write it
pub three_digits : (b : ℕ) → b < 256 → decimal_value (48 + b / 100) (48 + b / 10 % 10) (48 + b % 10) ≡ b
three_digits b h = omega arith

decimal_part : (b : ℕ) → b < 256 → IsPart (Decimal (48 + b / 100) (48 + b / 10 % 10) (48 + b % 10))
decimal_part b h = (
  digit_shown (b / 100) (omega arith),
  digit_shown (b / 10 % 10) (omega arith),
  digit_shown (b % 10) (omega arith),
  omega (arith, three_digits b h, h),
)

-- what is written for a byte spells it
pub record IsWritten (b : ℕ) (part : Part) : Type 0 where
  pub valid : IsPart part
  pub spells : part_lower part ≡ b

written_by : (b : ℕ) (special shown : Bool) → IsNameByte b → is_special b ≡ special → is_ascii_graphic b ≡ shown → IsWritten b (cond special (Quoted b) (cond shown (Raw b) (Decimal (48 + b / 100) (48 + b / 10 % 10) (48 + b % 10))))
written_by b true shown h p q = record { valid = special_mark b p; spells = h.lower }
written_by b false true h p q = record { valid = (q, not_special b 46 p refl, not_special b 92 p refl); spells = h.lower }
written_by b false false h p q = record { valid = decimal_part b h.byte; spells = ap to_ascii_lowercase (three_digits b h.byte) ∙ h.lower }

byte_written : (b : ℕ) → IsNameByte b → IsWritten b (part_of b)
byte_written b h = written_by b _ _ h refl refl

pub record IsWrittenLabel (label : List ℕ) : Type 0 where
  pub valid : AreParts (map part_of label)
  pub spells : label_of (map part_of label) ≡ label

label_written : (label : List ℕ) → AreNameBytes label → IsWrittenLabel label
label_written [] h = record { valid = tt; spells = refl }
label_written (b ∷ bs) h =
    let one = byte_written b h.0 in
    let rec = label_written bs h.1 in
    record { valid = (one.valid, rec.valid); spells = cons _ _ _ _ one.spells rec.spells }
  where
    cons : (a b : ℕ) (xs ys : List ℕ) → a ≡ b → xs ≡ ys → a ∷ xs ≡ b ∷ ys
    cons a b xs ys e f = cc

pub record AreWritten (labels : List (List ℕ)) : Type 0 where
  pub valid : AreAllParts (map (map part_of) labels)
  pub spells : map label_of (map (map part_of) labels) ≡ labels

labels_written : (labels : List (List ℕ)) → AreLabels labels → AreWritten labels
labels_written [] h = record { valid = tt; spells = refl }
labels_written (label ∷ labels) h =
    let one = label_written label h.0.bytes in
    let rec = labels_written labels h.1 in
    record { valid = (one.valid, rec.valid); spells = cons _ _ _ _ one.spells rec.spells }
  where
    cons : (a b : List ℕ) (xs ys : List (List ℕ)) → a ≡ b → xs ≡ ys → a ∷ xs ≡ b ∷ ys
    cons a b xs ys e f = cc

-- what is written for a name with a label joins its labels
written_joins : (label : List ℕ) (labels : List (List ℕ)) → IsName (label ∷ labels) → JoinsLabels (text_form (label ∷ labels)) (label ∷ labels)
written_joins label labels h =
    let l = last_of label labels in
    let w = labels_written (label ∷ labels) h.labels_are in
    let parts : map (map part_of) (label ∷ labels) ≡ map (map part_of) l.front ++ map part_of l.last ∷ [] = ap (λ ls. map (map part_of) ls) l.is ∙ map_push (map part_of) l.front l.last in
    let valid = all_last (map (map part_of) l.front) (map part_of l.last) (subst AreAllParts parts w.valid) in
    record {
      labels = map (map part_of) l.front;
      last = map part_of l.last;
      end = 46 ∷ [];
      valid = valid.0;
      last_valid = valid.1;
      final_dot = inr refl;
      text = ap dotted parts ∙ dotted_push (map (map part_of) l.front) (map part_of l.last);
      lower = sym w.spells ∙ ap (λ ps. map label_of ps) parts ∙ map_push label_of (map (map part_of) l.front) (map part_of l.last);
      begin = name_begins (label ∷ labels) h;
    }

pub name_spelled : (name : List (List ℕ)) → IsName name → SpellsText (text_form name) name
name_spelled [] h = inl (refl, refl)
name_spelled (label ∷ labels) h = inr (written_joins label labels h)

pub name_read : (name : List (List ℕ)) → IsName name → read_text (text_form name) ≡ Ok name
name_read name h = spelled_reads (text_form name) name (name_spelled name h)
