-- The reading of a string against its grammar.
use Rattle.std.proofs.Common.{◌≡◌, ℕ, zero, suc, ◌+◌, ◌<◌, Bool, true, false, cond, ◌&&◌, nat_eq, List, [], ◌∷◌, ◌++◌, length, drop, Ok, Err, refl, ap, sym, ◌∙◌, subst, arith, inl, inr}
use Rattle.std.proofs.lemmas.List.{append_assoc, length-append, drop_at, map_push}
use Rattle.std.specs.List.{list_all}
use Rattle.field_text.specs.BlanksGrammar.{is_blank}
use Rattle.dns_names.specs.TextParts.{Part, part_byte, part_text, parts_text}
use Rattle.alt_base.proofs.Numbers.{true_eq, false_eq}
use Rattle.dns_names.proofs.TextSays.{parts_push}
use Rattle.dns_names.proofs.TextSteps.{part_some}
use Rattle.svcb_values.specs.declared.token.Style.{Style}
use Rattle.svcb_values.specs.declared.token.Style.TheVariants.{Contiguous, InQuotes}
use Rattle.svcb_values.specs.declared.token.Token.{Token}
use Rattle.svcb_values.specs.declared.token.Token.TheVariants as token
use Rattle.svcb_values.specs.declared.unescaped.Unescaped.{Unescaped}
use Rattle.svcb_values.specs.StringGrammar.{IsPart, AreParts, opening, string_text, is_raw_part, meant, EndsItem, SpellsString, BeginsStyle, StringGoesOn, EndsNone, StringRefusedAt}
use Rattle.svcb_values.specs.StringReading.{StringAnswer, is_end, with_end, string_ends, with_byte, token_at, read_by, read_tokens, read_string}
use Rattle.svcb_values.proofs.TokenLaws.{WrongSays, BadByte, BadEscape, Open, EndSays, BeginsPart, TokenSays, token_says}
use Rattle.std.proofs.Math.Bool.{and-true, and_assoc}

-- what an answer says
abbrev pub StringSays : List ℕ → StringAnswer → Type 0
StringSays x (Ok found) = SpellsString x found.0 found.1
StringSays x (Err q) = StringRefusedAt x q

-- behind these parts of a string the text goes on with a rest
pub record Behind (x : List ℕ) (style : Style) (parts : List Part) (rest : List ℕ) : Type 0 where
  pub valid : AreParts style parts
  pub begins : BeginsStyle style x
  pub text : x ≡ opening style ++ (parts_text parts ++ rest)

-- how many bytes stand before the rest
abbrev pub size_of : Style → List Part → ℕ
size_of style parts = length (opening style) + length (parts_text parts)

pub goes_on : (x : List ℕ) (style : Style) (parts : List Part) (rest : List ℕ) (count : ℕ) → Behind x style parts rest → count ≡ size_of style parts → StringGoesOn x style rest count
goes_on x style parts rest count behind size = record { parts = parts; valid = behind.valid; begins = behind.begins; text = behind.text; size = size }

-- the rest named otherwise
same_rest : (x : List ℕ) (style : Style) (parts : List Part) (rest other : List ℕ) → Behind x style parts rest → rest ≡ other → Behind x style parts other
same_rest x style parts rest other behind same = subst (λ xs. Behind x style parts xs) same behind

valid_push : (style : Style) (parts : List Part) (part : Part) → AreParts style parts → IsPart style part → AreParts style (parts ++ part ∷ [])
valid_push style [] part all one = (one, tt)
valid_push style (first ∷ parts) part all one = (all.0, valid_push style parts part all.1 one)

-- a part more
part_behind : (x : List ℕ) (style : Style) (parts : List Part) (part : Part) (more : List ℕ) → Behind x style parts (part_text part ++ more) → IsPart style part → Behind x style (parts ++ part ∷ []) more
part_behind x style parts part more behind valid = record {
  valid = valid_push style parts part behind.valid valid;
  begins = behind.begins;
  text = behind.text ∙ ap (λ xs. opening style ++ xs) (sym (append_assoc (parts_text parts) (part_text part) more) ∙ ap (λ xs. xs ++ more) (sym (parts_push parts part)));
}

raw_push : (parts : List Part) (part : Part) → list_all is_raw_part (parts ++ part ∷ []) ≡ (list_all is_raw_part parts && is_raw_part part)
raw_push [] part = and-true (is_raw_part part)
raw_push (first ∷ parts) part = ap (λ t. is_raw_part first && t) (raw_push parts part) ∙ sym (and_assoc (is_raw_part first) (list_all is_raw_part parts) (is_raw_part part))

pub same_value : (bytes bytes' : List ℕ) (plain plain' : Bool) → bytes ≡ bytes' → plain ≡ plain' → (let a : Unescaped = record { bytes = bytes; plain = plain } in a) ≡ (let b : Unescaped = record { bytes = bytes'; plain = plain' } in b)
same_value bytes bytes' plain plain' e f = rw (e, f) refl

meant_push : (parts : List Part) (part : Part) → meant (parts ++ part ∷ []) ≡ with_byte (meant parts) (part_byte part) (is_raw_part part)
meant_push parts part = same_value _ _ _ _ (map_push part_byte parts part) (raw_push parts part)

-- the text of a string, by what stands before its parts and behind them
pub closed_text : (style : Style) (parts : List Part) (more : List ℕ) → opening style ++ (parts_text parts ++ (opening style ++ more)) ≡ string_text style parts ++ more
closed_text style parts more =
    ap (λ xs. opening style ++ xs) (sym (append_assoc (parts_text parts) (opening style) more)) ∙ sym (append_assoc (opening style) (parts_text parts ++ opening style) more)

pub closed_size : (style : Style) (parts : List Part) → length (string_text style parts) ≡ size_of style parts + length (opening style)
closed_size style parts = omega (arith, length-append (opening style) (parts_text parts ++ opening style), length-append (parts_text parts) (opening style))

-- a whole string
closed : (x : List ℕ) (style : Style) (parts : List Part) (more : List ℕ) (count : ℕ) → Behind x style parts (opening style ++ more) → EndsItem more → count ≡ size_of style parts + length (opening style) → SpellsString x (meant parts) count
closed x style parts more count behind ends size = record {
  style = style;
  parts = parts;
  rest = more;
  valid = behind.valid;
  text = behind.text ∙ closed_text style parts more;
  ends = ends;
  means = refl;
  size = size ∙ sym (closed_size style parts);
}

item_ends : (rest : List ℕ) → EndSays Contiguous rest → EndsItem rest
item_ends [] h = tt
item_ends (b ∷ bs) h = h

quote_says : (x : List ℕ) (parts : List Part) (byte : ℕ) (rest : List ℕ) (count : ℕ) (blank : Bool) → Behind x InQuotes parts (34 ∷ byte ∷ rest) → count ≡ size_of InQuotes parts → is_blank byte ≡ blank
    → StringSays x (cond blank (Ok (meant parts, count + 1)) (Err (count + 1)))
quote_says x parts byte rest count true behind size is = closed x InQuotes parts (byte ∷ rest) (count + 1) behind is (omega arith)
quote_says x parts byte rest count false behind size is = inr (inr (inr (record { byte = byte; rest = rest; quote = count; goes = goes_on x InQuotes parts (34 ∷ byte ∷ rest) count behind size; no_blank = is; place = refl })))

behind_quote : (x : List ℕ) (parts : List Part) (more : List ℕ) (count : ℕ) → Behind x InQuotes parts (34 ∷ more) → count ≡ size_of InQuotes parts → StringSays x (with_end (meant parts) (count + 1) more)
behind_quote x parts [] count behind size = closed x InQuotes parts [] (count + 1) behind tt (omega arith)
behind_quote x parts (byte ∷ rest) count behind size = quote_says x parts byte rest count (is_blank byte) behind size refl

end_says : (x : List ℕ) (style : Style) (parts : List Part) (rest : List ℕ) (count : ℕ) → Behind x style parts rest → count ≡ size_of style parts → EndSays style rest → StringSays x (string_ends style (meant parts) count rest)
end_says x Contiguous parts rest count behind size says = closed x Contiguous parts rest count behind (item_ends rest says) (omega arith)
end_says x InQuotes parts [] count behind size says = cc
end_says x InQuotes parts (b ∷ more) count behind size says =
    behind_quote x parts more count (same_rest x InQuotes parts (b ∷ more) (34 ∷ more) behind (ap (λ n. n ∷ more) (true_eq b 34 says))) size

ends_none : (style : Style) (b : ℕ) → is_end style b ≡ false → EndsNone style b
ends_none Contiguous b h = h
ends_none InQuotes b h = false_eq b 34 h

wrong_says : (x : List ℕ) (style : Style) (parts : List Part) (rest : List ℕ) (count : ℕ) → Behind x style parts rest → count ≡ size_of style parts → WrongSays style rest → StringRefusedAt x count
wrong_says x style parts rest count behind size (BadByte s) = inl (record {
  style = style;
  byte = s.byte;
  rest = s.rest;
  goes = goes_on x style parts (s.byte ∷ s.rest) count (same_rest x style parts rest (s.byte ∷ s.rest) behind s.text) size;
  no_backslash = s.no_backslash;
  no_end = ends_none style s.byte s.no_end;
  bad = s.bad;
})
wrong_says x style parts rest count behind size (BadEscape s) = inr (inl (record {
  style = style;
  rest = s.rest;
  goes = goes_on x style parts (92 ∷ s.rest) count (same_rest x style parts rest (92 ∷ s.rest) behind s.text) size;
  bad = s.bad;
}))
wrong_says x style parts rest count behind size (Open s) =
    let goes = goes_on x style parts [] count (same_rest x style parts rest [] behind s.text) size in
    inr (inr (inl (subst (λ st. StringGoesOn x st [] count) s.style_is goes)))

abbrev NextSays : ℕ → List ℕ → Style → Type 0
NextSays k x style = (parts : List Part) (rest : List ℕ) (count : ℕ) → Behind x style parts rest → count ≡ size_of style parts → length rest < k → StringSays x (read_tokens k style (meant parts) count rest)

part_says : (k : ℕ) (x : List ℕ) (style : Style) (parts : List Part) (rest : List ℕ) (count byte many : ℕ) (raw : Bool) → NextSays k x style → Behind x style parts rest → count ≡ size_of style parts → length rest < suc k → BeginsPart style rest byte many raw
    → StringSays x (read_tokens k style (with_byte (meant parts) byte raw) (count + many) (drop many rest))
part_says k x style parts rest count byte many raw next behind size within s =
    let left : drop many rest ≡ s.more = ap (λ xs. drop many xs) s.text ∙ drop_at (part_text s.part) s.more many (sym s.count_is) in
    let pushed : meant (parts ++ s.part ∷ []) ≡ with_byte (meant parts) byte raw = meant_push parts s.part ∙ rw (s.byte_is, s.raw_is) refl in
    let sized : length (parts_text (parts ++ s.part ∷ [])) ≡ length (parts_text parts) + length (part_text s.part) = ap length (parts_push parts s.part) ∙ length-append (parts_text parts) (part_text s.part) in
    let some = part_some s.part in
    let goes = part_behind x style parts s.part s.more (same_rest x style parts rest (part_text s.part ++ s.more) behind s.text) s.valid in
    rw left (subst (λ v. StringSays x (read_tokens k style v (count + many) s.more)) pushed
    (next (parts ++ s.part ∷ []) s.more (count + many) goes (omega (arith, size, sized, s.count_is)) (omega (arith, within, some, ap length s.text, length-append (part_text s.part) s.more))))

step_says : (k : ℕ) (x : List ℕ) (style : Style) (parts : List Part) (rest : List ℕ) (count : ℕ) (t : Token) → NextSays k x style → Behind x style parts rest → count ≡ size_of style parts → length rest < suc k → TokenSays style rest t
    → StringSays x (read_by t style (meant parts) count rest (read_tokens k style))
step_says k x style parts rest count token.End next behind size within s = end_says x style parts rest count behind size s
step_says k x style parts rest count (token.Raw byte) next behind size within s = part_says k x style parts rest count byte 1 true next behind size within s
step_says k x style parts rest count (token.Escaped byte many) next behind size within s = part_says k x style parts rest count byte many false next behind size within s
step_says k x style parts rest count token.Wrong next behind size within s = wrong_says x style parts rest count behind size s

tokens_say : (k : ℕ) (x : List ℕ) (style : Style) → NextSays k x style
tokens_say zero x style parts rest count behind size within = absurd (omega arith)
tokens_say (suc k) x style parts rest count behind size within = step_says k x style parts rest count (token_at style rest) (tokens_say k x style) behind size within (token_says style rest)

string_by : (b : ℕ) (bs : List ℕ) (quote : Bool) → nat_eq b 34 ≡ quote
    → StringSays (b ∷ bs) (cond quote (read_tokens (suc (length bs)) InQuotes (meant []) 1 bs) (read_tokens (suc (suc (length bs))) Contiguous (meant []) 0 (b ∷ bs)))
string_by b bs true is =
    let same = true_eq b 34 is in
    tokens_say (suc (length bs)) (b ∷ bs) InQuotes [] bs 1 (record { valid = tt; begins = same; text = ap (λ n. n ∷ bs) same }) refl (omega arith)
string_by b bs false is = tokens_say (suc (suc (length bs))) (b ∷ bs) Contiguous [] (b ∷ bs) 0 (record { valid = tt; begins = false_eq b 34 is; text = refl }) refl (omega arith)

pub string_says : (x : List ℕ) → StringSays x (read_string x)
string_says [] = closed [] Contiguous [] [] 0 (record { valid = tt; begins = refl; text = refl }) tt refl
string_says (b ∷ bs) = string_by b bs (nat_eq b 34) refl
