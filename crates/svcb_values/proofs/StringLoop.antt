-- What the loop over the tokens of a string keeps.
use Rattle.std.proofs.Common.{◌≡◌, ◌≤◌, ℕ, ◌+◌, Bool, true, false, ◌&&◌, nat_eq, List, [], ◌∷◌, ◌++◌, length, drop, refl, sym, ◌∙◌, subst, arith}
use Rattle.std.proofs.lemmas.List.{length-drop, drop-drop}
use Rattle.alt_base.proofs.Numbers.{eq_true, eq_false}
use Rattle.svcb_values.specs.declared.token.Style.{Style}
use Rattle.svcb_values.specs.declared.token.Style.TheVariants.{Contiguous, InQuotes}
use Rattle.svcb_values.specs.declared.token.Token.{Token}
use Rattle.svcb_values.specs.declared.token.Token.TheVariants as token
use Rattle.svcb_values.specs.declared.unescaped.Unescaped.{Unescaped}
use Rattle.svcb_values.specs.StringGrammar.{opening, BeginsStyle}
use Rattle.svcb_values.specs.StringReading.{token_at, with_byte, read_string}
use Rattle.svcb_values.proofs.TokenLaws.{BeginsPart, TokenSays, token_says}
use Rattle.svcb_values.proofs.StringSteps.{part_size, reads, reads_token}
use Rattle.std.proofs.Math.Bool.{and-true, and-false}

abbrev pub value_of : List ℕ → Bool → Unescaped
value_of bytes plain = record { bytes = bytes; plain = plain }

-- the text is read up to the place, and what is left gives the answer
pub record StringRead (text : List ℕ) (style : Style) (bytes : List ℕ) (plain : Bool) (place : ℕ) : Type 0 where
  pub within : place ≤ length text
  pub same : reads style (value_of bytes plain) place (drop place text) ≡ read_string text

pub begins_reads : (text : List ℕ) (style : Style) → BeginsStyle style text → StringRead text style [] true (length (opening style))
begins_reads [] Contiguous h = record { within = omega arith; same = refl }
begins_reads [] InQuotes h = cc
begins_reads (b ∷ bs) Contiguous h =
    let no : nat_eq b 34 ≡ false = eq_false b 34 h in
    record { within = omega arith; same = rw no refl }
begins_reads (b ∷ bs) InQuotes h =
    let is : nat_eq b 34 ≡ true = eq_true b 34 h in
    record { within = omega arith; same = rw is refl }

token_there : (style : Style) (text rest : List ℕ) (place : ℕ) (t : Token) → rest ≡ drop place text → token_at style rest ≡ t → token_at style (drop place text) ≡ t
token_there style text rest place t is found = subst (λ xs. token_at style xs ≡ t) is found

says_there : (style : Style) (text rest : List ℕ) (place : ℕ) (t : Token) → rest ≡ drop place text → token_at style rest ≡ t → TokenSays style (drop place text) t
says_there style text rest place t is found = subst (λ u. TokenSays style (drop place text) u) (token_there style text rest place t is found) (token_says style (drop place text))

byte_on : (text : List ℕ) (style : Style) (bytes new : List ℕ) (plain still : Bool) (place byte count : ℕ) (raw : Bool) → BeginsPart style (drop place text) byte count raw
    → reads style (value_of bytes plain) place (drop place text) ≡ reads style (with_byte (value_of bytes plain) byte raw) (place + count) (drop count (drop place text))
    → new ≡ bytes ++ byte ∷ [] → still ≡ (plain && raw) → StringRead text style bytes plain place → StringRead text style new still (place + count)
byte_on text style bytes new plain still place byte count raw says on pushed is read =
    let size = part_size style (drop place text) byte count raw says in
    record {
      within = omega (arith, size.1, length-drop place text, read.within);
      same = rw (pushed, is, ← drop-drop count place text) (sym on ∙ read.same);
    }

-- a byte on that stands for itself
pub raw_read : (text rest : List ℕ) (style : Style) (bytes new : List ℕ) (plain : Bool) (place byte : ℕ) → rest ≡ drop place text → token_at style rest ≡ token.Raw byte → new ≡ bytes ++ byte ∷ []
    → StringRead text style bytes plain place → StringRead text style new plain (place + 1)
raw_read text rest style bytes new plain place byte is found pushed read =
    byte_on text style bytes new plain plain place byte 1 true (says_there style text rest place _ is found)
    (reads_token (token.Raw byte) style (value_of bytes plain) place (drop place text) (token_there style text rest place _ is found)) pushed (sym (and-true plain)) read

-- a byte on behind a backslash
pub escaped_read : (text rest : List ℕ) (style : Style) (bytes new : List ℕ) (plain : Bool) (place byte count : ℕ) → rest ≡ drop place text → token_at style rest ≡ token.Escaped byte count → new ≡ bytes ++ byte ∷ []
    → StringRead text style bytes plain place → StringRead text style new false (place + count)
escaped_read text rest style bytes new plain place byte count is found pushed read =
    byte_on text style bytes new plain false place byte count false (says_there style text rest place _ is found)
    (reads_token (token.Escaped byte count) style (value_of bytes plain) place (drop place text) (token_there style text rest place _ is found)) pushed (sym (and-false plain)) read

-- how far a byte is on
pub escaped_size : (text rest : List ℕ) (style : Style) (place byte count : ℕ) → place ≤ length text → rest ≡ drop place text → token_at style rest ≡ token.Escaped byte count → (1 ≤ count) × (place + count ≤ length text)
escaped_size text rest style place byte count within is found =
    let size = part_size style (drop place text) byte count false (says_there style text rest place _ is found) in
    (size.0, omega (arith, size.1, length-drop place text, within))
