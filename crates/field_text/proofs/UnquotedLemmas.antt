-- The unquoted text of a quoted string, and what stands behind it.
use Rattle.std.proofs.Common.{◌≡◌, ℕ, ◌+◌, ◌-◌, ◌≤◌, false, List, [], ◌∷◌, ◌++◌, length, take, drop, Result, Ok, Err, IfOk, refl, ap, sym, ◌∙◌, arith}
use Rattle.std.proofs.lemmas.List.{append-nil}
use Rattle.std.proofs.Math.Seq.{take-append_seam, drop-append-add}
use Rattle.alt_base.specs.declared.refusal.At.{At}
use Rattle.field_text.specs.declared.text_refusal.TextRefusal.{TextRefusal}
use Rattle.field_text.specs.Runs.{AllIn}
use Rattle.field_text.specs.QuotedGrammar.{is_quoted_text, Part, Raw, Escaped, parts_text, parts_bytes, AreParts, SpellsQuoted}
use Rattle.field_text.specs.QuotedReading.{read_quoted, unquoted_body, unquoted, after_body, after_quoted}
use Rattle.field_text.proofs.RunLemmas.{drop_on}
use Rattle.field_text.proofs.QuotedLemmas.{text_no_quote, text_no_slash, quoted_spelled, quoted_ok}

-- the parts are unquoted and passed over
pub unquoted_parts : (parts : List Part) (tail : List ℕ) → AreParts parts → unquoted_body false (parts_text parts ++ tail) ≡ parts_bytes parts ++ unquoted_body false tail
unquoted_parts [] tail valid = refl
unquoted_parts (Raw b ∷ parts) tail valid = rw (text_no_quote b valid.0, text_no_slash b valid.0) (ap (λ bs. b ∷ bs) (unquoted_parts parts tail valid.1))
unquoted_parts (Escaped b ∷ parts) tail valid = ap (λ bs. b ∷ bs) (unquoted_parts parts tail valid.1)

after_parts : (parts : List Part) (tail : List ℕ) → AreParts parts → after_body false (parts_text parts ++ tail) ≡ after_body false tail
after_parts [] tail valid = refl
after_parts (Raw b ∷ parts) tail valid = rw (text_no_quote b valid.0, text_no_slash b valid.0) (after_parts parts tail valid.1)
after_parts (Escaped b ∷ parts) tail valid = after_parts parts tail valid.1

pub unquoted_is : (p q : ℕ) (x : List ℕ) (s : SpellsQuoted p x q) → unquoted x ≡ parts_bytes s.parts
unquoted_is p q x s = rw s.text (unquoted_parts s.parts (34 ∷ s.rest) s.valid ∙ append-nil (parts_bytes s.parts))

pub between_is : (p q : ℕ) (x : List ℕ) (s : SpellsQuoted p x q) → unquoted_body false (parts_text s.parts) ≡ parts_bytes s.parts
between_is p q x s = ap (unquoted_body false) (sym (append-nil (parts_text s.parts))) ∙ unquoted_parts s.parts [] s.valid ∙ append-nil (parts_bytes s.parts)

pub after_is : (p q : ℕ) (x : List ℕ) (s : SpellsQuoted p x q) → after_quoted x ≡ s.rest
after_is p q x s = rw s.text (after_parts s.parts (34 ∷ s.rest) s.valid)

dropped : (parts : List Part) (rest : List ℕ) → drop (length (parts_text parts) + 2) (34 ∷ (parts_text parts ++ 34 ∷ rest)) ≡ rest
dropped parts rest =
    let n : length (parts_text parts) + 2 ≡ length (34 ∷ parts_text parts) + 1 = omega arith in
    rw n (drop-append-add (34 ∷ parts_text parts) (34 ∷ rest) 1)

pub quoted_dropped : (p q : ℕ) (x : List ℕ) → SpellsQuoted p x q → drop (q - p) x ≡ after_quoted x
quoted_dropped p q x s =
    let n : q - p ≡ length (parts_text s.parts) + 2 = omega (arith, s.end) in
    rw (n, after_is p q x s, s.text) (dropped s.parts s.rest)

pub quoted_rest : (p q : ℕ) (x : List ℕ) → SpellsQuoted p (drop p x) q → drop q x ≡ after_quoted (drop p x)
quoted_rest p q x s =
    let below : p ≤ q = omega (arith, s.end) in
    sym (drop_on p q x below) ∙ quoted_dropped p q (drop p x) s

pub rest_of_ok : (p : ℕ) (x : List ℕ) (r : Result ℕ (At TextRefusal)) → r ≡ read_quoted p (drop p x) → IfOk r (λ end. drop end x ≡ after_quoted (drop p x))
rest_of_ok p x (Ok q) is = quoted_rest p q x (quoted_ok p (drop p x) (Ok q) is)
rest_of_ok p x (Err at) is = tt

pub between_quotes : (p q : ℕ) (x : List ℕ) (s : SpellsQuoted p x q) → take (q - p - 2) (drop 1 x) ≡ parts_text s.parts
between_quotes p q x s =
    let n : q - p - 2 ≡ length (parts_text s.parts) = omega (arith, s.end) in
    rw (n, s.text) (take-append_seam (parts_text s.parts) (34 ∷ s.rest))

-- quoted text alone
abbrev raws : List ℕ → List Part
raws [] = []
raws (b ∷ bs) = Raw b ∷ raws bs

raws_text : (text : List ℕ) → parts_text (raws text) ≡ text
raws_text [] = refl
raws_text (b ∷ bs) = ap (λ xs. b ∷ xs) (raws_text bs)

raws_bytes : (text : List ℕ) → parts_bytes (raws text) ≡ text
raws_bytes [] = refl
raws_bytes (b ∷ bs) = ap (λ xs. b ∷ xs) (raws_bytes bs)

raws_valid : (text : List ℕ) → AllIn is_quoted_text text → AreParts (raws text)
raws_valid [] valid = tt
raws_valid (b ∷ bs) valid = (valid.0, raws_valid bs valid.1)

plain : (p : ℕ) (text rest : List ℕ) → AllIn is_quoted_text text → SpellsQuoted p (34 ∷ (text ++ 34 ∷ rest)) (p + length text + 2)
plain p text rest valid = record {
  parts = raws text;
  rest = rest;
  valid = raws_valid text valid;
  text = ap (λ xs. 34 ∷ (xs ++ 34 ∷ rest)) (sym (raws_text text));
  end = omega (arith, ap length (raws_text text));
}

pub plain_read : (p : ℕ) (text rest : List ℕ) → AllIn is_quoted_text text → read_quoted p (34 ∷ (text ++ 34 ∷ rest)) ≡ Ok (p + length text + 2)
plain_read p text rest valid = quoted_spelled p _ _ (plain p text rest valid)

pub plain_unquoted : (text rest : List ℕ) → AllIn is_quoted_text text → unquoted (34 ∷ (text ++ 34 ∷ rest)) ≡ text
unfolding plain
plain_unquoted text rest valid = unquoted_is 0 _ _ (plain 0 text rest valid) ∙ raws_bytes text

pub plain_after : (text rest : List ℕ) → AllIn is_quoted_text text → after_quoted (34 ∷ (text ++ 34 ∷ rest)) ≡ rest
unfolding plain
plain_after text rest valid = after_is 0 _ _ (plain 0 text rest valid)
