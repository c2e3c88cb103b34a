-- Reading tokens, quoted strings and blanks that a text begins with. A rest of a text of n bytes begins at the place
-- n less the length of the rest.
use Rattle.std.proofs.Common.{◌≡◌, ℕ, ◌+◌, ◌-◌, Bool, true, false, ◌||◌, nat_eq, List, [], ◌∷◌, ◌++◌, length, Ok, refl, ap, sym, ◌∙◌, subst, arith, length-append}
use Rattle.alt_base.proofs.Booleans.{contradicts}
use Rattle.alt_base.proofs.Numbers.{true_eq}
use Rattle.field_text.specs.Runs.{AllIn, BeginsIn, run_of, after_run}
use Rattle.field_text.specs.BlanksGrammar.{is_blank}
use Rattle.field_text.specs.BlanksReading.{read_blanks, after_blanks}
use Rattle.field_text.specs.TokenGrammar.{is_token}
use Rattle.field_text.specs.TokenReading.{read_token, token_of, after_token}
use Rattle.field_text.specs.QuotedGrammar.{Part, parts_text, parts_bytes, AreParts, SpellsQuoted}
use Rattle.field_text.specs.QuotedReading.{read_quoted, unquoted, after_quoted}
use Rattle.field_text.proofs.RunLemmas.{longest_run, run_of-append, after_run-append}
use Rattle.field_text.proofs.TokenLemmas.{plain_read}
use Rattle.field_text.proofs.QuotedLemmas.{quoted_spelled}
use Rattle.field_text.proofs.UnquotedLemmas.{unquoted_is, after_is}
use Rattle.altsvc_grammar.specs.Steps.{begins_with}
use Rattle.altsvc_grammar.specs.ParameterGrammar.{IsToken}

-- blanks
pub after_pass : (class : ℕ → Bool) (run y : List ℕ) → AllIn class run → after_run class (run ++ y) ≡ after_run class y
after_pass class [] y valid = refl
after_pass class (b ∷ bs) y valid = rw valid.0 (after_pass class bs y valid.1)

pub blanks_end : (blanks y : List ℕ) → AllIn is_blank blanks → (BeginsIn is_blank y → ⊥) → after_blanks (blanks ++ y) ≡ y
blanks_end blanks y valid ends = after_run-append is_blank blanks y valid ends

pub blanks_place : (n p : ℕ) (x : List ℕ) → p + length x ≡ n → read_blanks p x ≡ n - length (after_blanks x)
blanks_place n p x h =
    let long : length x ≡ length (run_of is_blank x) + length (after_run is_blank x) = ap length (longest_run is_blank x).text ∙ length-append (run_of is_blank x) (after_run is_blank x) in
    omega arith

-- a token's byte is no blank, no comma and no `=`
not_byte : (b k : ℕ) → is_token b ≡ true → is_token k ≡ false → nat_eq b k ≡ false
not_byte b k token none = go (nat_eq b k) refl
  where
    go : (t : Bool) → nat_eq b k ≡ t → t ≡ false
    go true is = sym token ∙ subst (λ c. is_token c ≡ false) (sym (true_eq b k is)) none
    go false is = refl

pub token_no_blank : (b : ℕ) → is_token b ≡ true → is_blank b ≡ false
token_no_blank b h = rw (not_byte b 32 h refl, not_byte b 9 h refl) refl

pub token_no_comma : (b : ℕ) → is_token b ≡ true → nat_eq b 44 ≡ false
token_no_comma b h = not_byte b 44 h refl

pub no_blank_front : (t y : List ℕ) → IsToken t → BeginsIn is_blank (t ++ y) → ⊥
no_blank_front [] y h b = h.some refl
no_blank_front (c ∷ cs) y h b = contradicts (is_blank c) b (token_no_blank c h.valid.0)

pub no_comma_front : (t y : List ℕ) → IsToken t → begins_with 44 (t ++ y) ≡ false
no_comma_front [] y h = absurd (h.some refl)
no_comma_front (c ∷ cs) y h = token_no_comma c h.valid.0

-- a blank is no token's byte
blank_no_token : (b : ℕ) → is_blank b ≡ true → is_token b ≡ false
blank_no_token b h = go (nat_eq b 32) (nat_eq b 9) refl refl h
  where
    go : (s t : Bool) → nat_eq b 32 ≡ s → nat_eq b 9 ≡ t → (s || t) ≡ true → is_token b ≡ false
    go true t is_s is_t either = subst (λ c. is_token c ≡ false) (sym (true_eq b 32 is_s)) refl
    go false true is_s is_t either = subst (λ c. is_token c ≡ false) (sym (true_eq b 9 is_t)) refl
    go false false is_s is_t either = let clash : false ≡ true = either in cc

pub no_token_front : (blanks y : List ℕ) → AllIn is_blank blanks → (BeginsIn is_token y → ⊥) → BeginsIn is_token (blanks ++ y) → ⊥
no_token_front [] y valid none b = none b
no_token_front (c ∷ cs) y valid none b = contradicts (is_token c) b (blank_no_token c valid.0)

-- tokens
pub token_read : (n p : ℕ) (t y : List ℕ) → IsToken t → (BeginsIn is_token y → ⊥) → p + length (t ++ y) ≡ n → read_token p (t ++ y) ≡ Ok (n - length y)
token_read n p t y h ends place =
    let q : p + length t ≡ n - length y = omega (arith, length-append t y) in
    plain_read p t y h.valid h.some ends ∙ ap Ok q

pub token_is : (t y : List ℕ) → IsToken t → (BeginsIn is_token y → ⊥) → token_of (t ++ y) ≡ t
token_is t y h ends = run_of-append is_token t y h.valid ends

pub token_after : (t y : List ℕ) → IsToken t → (BeginsIn is_token y → ⊥) → after_token (t ++ y) ≡ y
token_after t y h ends = after_run-append is_token t y h.valid ends

-- quoted strings
abbrev pub quoted_then : List Part → List ℕ → List ℕ
quoted_then parts y = 34 ∷ (parts_text parts ++ 34 ∷ y)

spelled : (n p : ℕ) (parts : List Part) (y : List ℕ) → AreParts parts → p + length (quoted_then parts y) ≡ n → SpellsQuoted p (quoted_then parts y) (n - length y)
spelled n p parts y valid place = record {
  parts = parts;
  rest = y;
  valid = valid;
  text = refl;
  end = omega (arith, length-append (parts_text parts) (34 ∷ y));
}

pub quoted_read : (n p : ℕ) (parts : List Part) (y : List ℕ) → AreParts parts → p + length (quoted_then parts y) ≡ n → read_quoted p (quoted_then parts y) ≡ Ok (n - length y)
quoted_read n p parts y valid place = quoted_spelled p (n - length y) (quoted_then parts y) (spelled n p parts y valid place)

at_zero : (parts : List Part) (y : List ℕ) → AreParts parts → SpellsQuoted 0 (quoted_then parts y) (length (quoted_then parts y) - length y)
at_zero parts y valid = spelled (length (quoted_then parts y)) 0 parts y valid (omega arith)

pub quoted_is : (parts : List Part) (y : List ℕ) → AreParts parts → unquoted (quoted_then parts y) ≡ parts_bytes parts
unfolding at_zero spelled
quoted_is parts y valid = unquoted_is 0 _ _ (at_zero parts y valid)

pub quoted_after : (parts : List Part) (y : List ℕ) → AreParts parts → after_quoted (quoted_then parts y) ≡ y
unfolding at_zero spelled
quoted_after parts y valid = after_is 0 _ _ (at_zero parts y valid)
