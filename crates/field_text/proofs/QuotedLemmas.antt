-- The reading of a quoted string against its grammar.
use Rattle.std.proofs.Common.{◌≡◌, ◌≢◌, ◌⊎◌, ℕ, ◌+◌, ◌≤◌, suc, Bool, true, false, cond, nat_eq, List, [], ◌∷◌, ◌++◌, length, Result, Ok, Err, IfOk, IfErr, refl, ap, sym, ◌∙◌, subst, arith, inl, inr}
use Rattle.std.proofs.lemmas.List.{append_assoc, length-append}
use Rattle.alt_base.specs.declared.refusal.At.{At}
use Rattle.field_text.specs.declared.text_refusal.TextRefusal.{TextRefusal}
use Rattle.field_text.specs.declared.text_refusal.TextRefusal.TheVariants.{Empty, BadByte, Unclosed}
use Rattle.field_text.specs.Refusals.{refused}
use Rattle.field_text.specs.QuotedReading.{read_body, read_quoted}
use Rattle.field_text.specs.QuotedGrammar.{is_quoted_text, is_after_backslash, Part, Raw, Escaped, part_text, parts_text, IsPart, AreParts, SpellsQuoted, QuotedRefusedAt, OneQuoted}
use Rattle.field_text.proofs.OneReadingLemmas.{Says, one_reading}
use Rattle.alt_base.proofs.Numbers.{true_eq, false_eq, eq_false}

-- the same of the text behind the opening quote
abbrev pub BodyEnds : ℕ → List ℕ → ℕ → Type 0
BodyEnds p x q = (parts : List Part) × (rest : List ℕ) × AreParts parts × (x ≡ parts_text parts ++ 34 ∷ rest) × (q ≡ p + length (parts_text parts) + 1)

abbrev pub BadByteIn : ℕ → List ℕ → ℕ → Type 0
BadByteIn p x q = (parts : List Part) × (b : ℕ) × (rest : List ℕ) × AreParts parts × (x ≡ parts_text parts ++ b ∷ rest) × (is_quoted_text b ≡ false) × (b ≢ 34) × (b ≢ 92) × (q ≡ p + length (parts_text parts))

abbrev pub BadEscapeIn : ℕ → List ℕ → ℕ → Type 0
BadEscapeIn p x q = (parts : List Part) × (b : ℕ) × (rest : List ℕ) × AreParts parts × (x ≡ parts_text parts ++ 92 ∷ b ∷ rest) × (is_after_backslash b ≡ false) × (q ≡ p + length (parts_text parts) + 1)

abbrev pub UnclosedIn : ℕ → List ℕ → ℕ → Type 0
UnclosedIn p x q = (parts : List Part) × (tail : List ℕ) × AreParts parts × (x ≡ parts_text parts ++ tail) × ((tail ≡ []) ⊎ (tail ≡ 92 ∷ [])) × (q ≡ p + length x)

abbrev pub BodyRefused : ℕ → List ℕ → ℕ → TextRefusal → Type 0
BodyRefused p x q Empty = ⊥
BodyRefused p x q BadByte = BadByteIn p x q ⊎ BadEscapeIn p x q
BodyRefused p x q Unclosed = UnclosedIn p x q

abbrev pub BodySays : ℕ → List ℕ → Result ℕ (At TextRefusal) → Type 0
BodySays p x (Ok q) = BodyEnds p x q
BodySays p x (Err at) = BodyRefused p x at.place at.reason

longer : (part : Part) (parts : List Part) → length (parts_text (part ∷ parts)) ≡ length (part_text part) + length (parts_text parts)
longer part parts = length-append (part_text part) (parts_text parts)

onto : (part : Part) (parts : List Part) (bs tail : List ℕ) → bs ≡ parts_text parts ++ tail → part_text part ++ bs ≡ parts_text (part ∷ parts) ++ tail
onto part parts bs tail text = ap (λ xs. part_text part ++ xs) text ∙ sym (append_assoc (part_text part) (parts_text parts) tail)

prepend_refused : (part : Part) (p p' q : ℕ) (bs : List ℕ) (reason : TextRefusal) → IsPart part → p' ≡ p + length (part_text part) → BodyRefused p' bs q reason → BodyRefused p (part_text part ++ bs) q reason
prepend_refused part p p' q bs Empty valid place says = says
prepend_refused part p p' q bs BadByte valid place (inl s) =
    inl (part ∷ s.0, s.1, s.2, (valid, s.3), onto part s.0 bs (s.1 ∷ s.2) s.4, s.5, s.6, s.7, omega (arith, s.8, place, longer part s.0))
prepend_refused part p p' q bs BadByte valid place (inr s) =
    inr (part ∷ s.0, s.1, s.2, (valid, s.3), onto part s.0 bs (92 ∷ s.1 ∷ s.2) s.4, s.5, omega (arith, s.6, place, longer part s.0))
prepend_refused part p p' q bs Unclosed valid place s =
    (part ∷ s.0, s.1, (valid, s.2), onto part s.0 bs s.1 s.3, s.4, omega (arith, s.5, place, length-append (part_text part) bs))

prepend : (part : Part) (p p' : ℕ) (bs : List ℕ) (r : Result ℕ (At TextRefusal)) → IsPart part → p' ≡ p + length (part_text part) → BodySays p' bs r → BodySays p (part_text part ++ bs) r
prepend part p p' bs (Ok q) valid place s = (part ∷ s.0, s.1, (valid, s.2), onto part s.0 bs (34 ∷ s.1) s.3, omega (arith, s.4, place, longer part s.0))
prepend part p p' bs (Err at) valid place s = prepend_refused part p p' at.place bs at.reason valid place s

-- by the tests of the first byte
plain_byte : (p b : ℕ) (bs : List ℕ) (quote slash text : Bool) → nat_eq b 34 ≡ quote → nat_eq b 92 ≡ slash → is_quoted_text b ≡ text → BodySays (p + 1) bs (read_body false (p + 1) bs) → BodySays p (92 ∷ bs) (read_body true (p + 1) bs)
    → BodySays p (b ∷ bs) (cond quote (Ok (p + 1)) (cond slash (read_body true (p + 1) bs) (cond text (read_body false (p + 1) bs) (refused p BadByte))))
plain_byte p b bs true slash text quote_is slash_is text_is says escaped = ([], bs, tt, ap (λ c. c ∷ bs) (true_eq b 34 quote_is), omega arith)
plain_byte p b bs false true text quote_is slash_is text_is says escaped = subst (λ c. BodySays p (c ∷ bs) (read_body true (p + 1) bs)) (sym (true_eq b 92 slash_is)) escaped
plain_byte p b bs false false true quote_is slash_is text_is says escaped = prepend (Raw b) p (p + 1) bs (read_body false (p + 1) bs) text_is refl says
plain_byte p b bs false false false quote_is slash_is text_is says escaped = inl ([], b, bs, tt, refl, text_is, false_eq b 34 quote_is, false_eq b 92 slash_is, omega arith)

escaped_byte : (p b : ℕ) (bs : List ℕ) (allowed : Bool) → is_after_backslash b ≡ allowed → BodySays (p + 1 + 1) bs (read_body false (p + 1 + 1) bs) → BodySays p (92 ∷ b ∷ bs) (cond allowed (read_body false (p + 1 + 1) bs) (refused (p + 1) BadByte))
escaped_byte p b bs true allowed_is says = prepend (Escaped b) p (p + 1 + 1) bs (read_body false (p + 1 + 1) bs) allowed_is (omega arith) says
escaped_byte p b bs false allowed_is says = inr ([], b, bs, tt, refl, allowed_is, omega arith)

-- what the reading of a body says is so, also behind a backslash
pub body_says : (x : List ℕ) → ((p : ℕ) → BodySays p x (read_body false p x)) × ((p : ℕ) → BodySays p (92 ∷ x) (read_body true (p + 1) x))
body_says [] = (λ p. ([], [], tt, refl, inl refl, omega arith), λ p. ([], 92 ∷ [], tt, refl, inr refl, omega arith))
body_says (b ∷ bs) =
    let rec = body_says bs in (
      λ p. plain_byte p b bs (nat_eq b 34) (nat_eq b 92) (is_quoted_text b) refl refl refl (rec.0 (p + 1)) (rec.1 p),
      λ p. escaped_byte p b bs (is_after_backslash b) refl (rec.0 (p + 1 + 1)),
    )

pub text_no_quote : (b : ℕ) → is_quoted_text b ≡ true → nat_eq b 34 ≡ false
text_no_quote b valid = go (nat_eq b 34) refl
  where
    go : (t : Bool) → nat_eq b 34 ≡ t → t ≡ false
    go true is = absurd (clash (subst (λ c. is_quoted_text c ≡ true) (true_eq b 34 is) valid))
      where
        clash : false ≡ true → ⊥
        clash e = cc
    go false is = refl

pub text_no_slash : (b : ℕ) → is_quoted_text b ≡ true → nat_eq b 92 ≡ false
text_no_slash b valid = go (nat_eq b 92) refl
  where
    go : (t : Bool) → nat_eq b 92 ≡ t → t ≡ false
    go true is = absurd (clash (subst (λ c. is_quoted_text c ≡ true) (true_eq b 92 is) valid))
      where
        clash : false ≡ true → ⊥
        clash e = cc
    go false is = refl

-- the parts are passed over
pub read_parts : (parts : List Part) (p : ℕ) (tail : List ℕ) → AreParts parts → read_body false p (parts_text parts ++ tail) ≡ read_body false (p + length (parts_text parts)) tail
read_parts [] p tail valid = ap (λ n. read_body false n tail) (plus_zero p)
  where
    plus_zero : (n : ℕ) → n ≡ n + 0
    plus_zero n = omega arith
read_parts (Raw b ∷ parts) p tail valid =
    rw (text_no_quote b valid.0, text_no_slash b valid.0, valid.0)
    (read_parts parts (p + 1) tail valid.1 ∙ ap (λ n. read_body false n tail) (moved p (length (parts_text parts))))
  where
    moved : (n m : ℕ) → (n + 1) + m ≡ n + suc m
    moved n m = omega arith
read_parts (Escaped b ∷ parts) p tail valid =
    rw valid.0 (read_parts parts (p + 1 + 1) tail valid.1 ∙ ap (λ n. read_body false n tail) (moved p (length (parts_text parts))))
  where
    moved : (n m : ℕ) → (n + 1 + 1) + m ≡ n + suc (suc m)
    moved n m = omega arith

pub quoted_spelled : (p q : ℕ) (x : List ℕ) → SpellsQuoted p x q → read_quoted p x ≡ Ok q
quoted_spelled p q x s = rw s.text (read_parts s.parts (p + 1) (34 ∷ s.rest) s.valid ∙ ap Ok (sym s.end))

at_is : (q q' : ℕ) (r : TextRefusal) → q ≡ q' → refused q r ≡ refused q' r
at_is q q' r e = ap (λ n. refused n r) e

pub quoted_refused : (p q : ℕ) (r : TextRefusal) (x : List ℕ) → QuotedRefusedAt p x q r → read_quoted p x ≡ refused q r
quoted_refused p q Empty [] s = at_is p q Empty (sym s.0)
quoted_refused p q Empty (b ∷ bs) s = go (nat_eq b 34) refl
  where
    go : (t : Bool) → nat_eq b 34 ≡ t → cond t (read_body false (p + 1) bs) (refused p Empty) ≡ refused q Empty
    go true is = absurd (s.1 (true_eq b 34 is))
    go false is = at_is p q Empty (sym s.0)
quoted_refused p q BadByte x (inl s) =
    rw s.text (read_parts s.parts (p + 1) (s.byte ∷ s.rest) s.valid ∙ rw (eq_false s.byte 34 s.no_quote, eq_false s.byte 92 s.no_backslash, s.bad) (at_is _ _ BadByte (sym s.place)))
quoted_refused p q BadByte x (inr s) =
    rw s.text (read_parts s.parts (p + 1) (92 ∷ s.byte ∷ s.rest) s.valid ∙ rw s.bad (at_is _ _ BadByte (sym s.place)))
quoted_refused p q Unclosed x s = rw s.text (read_parts s.parts (p + 1) s.tail s.valid ∙ tails s.tail s.cut (s.place ∙ ap (λ xs. p + length xs) s.text))
  where
    tails : (tail : List ℕ) → (tail ≡ []) ⊎ (tail ≡ 92 ∷ []) → q ≡ p + length (34 ∷ (parts_text s.parts ++ tail)) → read_body false (p + 1 + length (parts_text s.parts)) tail ≡ refused q Unclosed
    tails tail (inl none) place = rw none (at_is _ _ Unclosed (omega (arith, place, length-append (parts_text s.parts) tail, ap length none)))
    tails tail (inr slash) place = rw slash (at_is _ _ Unclosed (omega (arith, place, length-append (parts_text s.parts) tail, ap length slash)))

-- what the reading says, as the grammar says it
abbrev pub QuotedSays : ℕ → List ℕ → Result ℕ (At TextRefusal) → Type 0
QuotedSays p x r = Says (SpellsQuoted p x) (QuotedRefusedAt p x) r

from_refused : (p q : ℕ) (bs : List ℕ) (reason : TextRefusal) → BodyRefused (p + 1) bs q reason → QuotedRefusedAt p (34 ∷ bs) q reason
from_refused p q bs Empty s = absurd s
from_refused p q bs BadByte (inl s) = inl (record { parts = s.0; byte = s.1; rest = s.2; valid = s.3; text = ap (λ xs. 34 ∷ xs) s.4; bad = s.5; no_quote = s.6; no_backslash = s.7; place = s.8 })
from_refused p q bs BadByte (inr s) = inr (record { parts = s.0; byte = s.1; rest = s.2; valid = s.3; text = ap (λ xs. 34 ∷ xs) s.4; bad = s.5; place = s.6 })
from_refused p q bs Unclosed s = record { parts = s.0; tail = s.1; valid = s.2; text = ap (λ xs. 34 ∷ xs) s.3; cut = s.4; place = s.5 ∙ moved p (length bs) }
  where
    moved : (n m : ℕ) → (n + 1) + m ≡ n + suc m
    moved n m = omega arith

from_body : (p : ℕ) (bs : List ℕ) (r : Result ℕ (At TextRefusal)) → BodySays (p + 1) bs r → QuotedSays p (34 ∷ bs) r
from_body p bs (Ok q) s = record { parts = s.0; rest = s.1; valid = s.2; text = ap (λ xs. 34 ∷ xs) s.3; end = s.4 }
from_body p bs (Err at) s = from_refused p at.place bs at.reason s

pub quoted_says : (p : ℕ) (x : List ℕ) → QuotedSays p x (read_quoted p x)
quoted_says p [] = (refl, λ h. h)
quoted_says p (b ∷ bs) = go (nat_eq b 34) refl
  where
    go : (t : Bool) → nat_eq b 34 ≡ t → QuotedSays p (b ∷ bs) (cond t (read_body false (p + 1) bs) (refused p Empty))
    go true is = subst (λ c. QuotedSays p (c ∷ bs) (read_body false (p + 1) bs)) (sym (true_eq b 34 is)) (from_body p bs (read_body false (p + 1) bs) ((body_says bs).0 (p + 1)))
    go false is = (refl, false_eq b 34 is)

-- exactly one reading or exactly one refusal
pub one_quoted_of : (p : ℕ) (x : List ℕ) → OneQuoted p x
one_quoted_of p x = one_reading (SpellsQuoted p x) (QuotedRefusedAt p x) (read_quoted p x) (quoted_says p x) (λ q s. quoted_spelled p q x s) (λ q r s. quoted_refused p q r x s)

-- the words of the call's contract
pub quoted_ok : (p : ℕ) (x : List ℕ) (r : Result ℕ (At TextRefusal)) → r ≡ read_quoted p x → IfOk r (λ end. SpellsQuoted p x end)
quoted_ok p x (Ok q) is = subst (QuotedSays p x) (sym is) (quoted_says p x)
quoted_ok p x (Err at) is = tt

pub quoted_err : (p : ℕ) (x : List ℕ) (r : Result ℕ (At TextRefusal)) → r ≡ read_quoted p x → IfErr r (λ at. QuotedRefusedAt p x at.place at.reason)
quoted_err p x (Ok q) is = tt
quoted_err p x (Err at) is = subst (QuotedSays p x) (sym is) (quoted_says p x)

spelled_above : (p q : ℕ) (x : List ℕ) → SpellsQuoted p x q → p + 2 ≤ q
spelled_above p q x s = omega (arith, s.end)

spelled_within : (p q : ℕ) (x : List ℕ) → SpellsQuoted p x q → q ≤ p + length x
spelled_within p q x s = omega (arith, s.end, ap length s.text, length-append (parts_text s.parts) (34 ∷ s.rest))

pub quoted_above : (p : ℕ) (x : List ℕ) (r : Result ℕ (At TextRefusal)) → r ≡ read_quoted p x → IfOk r (λ end. p + 2 ≤ end)
quoted_above p x (Ok q) is = spelled_above p q x (subst (QuotedSays p x) (sym is) (quoted_says p x))
quoted_above p x (Err at) is = tt

pub quoted_within : (p n : ℕ) (x : List ℕ) (r : Result ℕ (At TextRefusal)) → p + length x ≡ n → r ≡ read_quoted p x → IfOk r (λ end. end ≤ n)
quoted_within p n x (Ok q) long is = omega (arith, spelled_within p q x (subst (QuotedSays p x) (sym is) (quoted_says p x)))
quoted_within p n x (Err at) long is = tt
