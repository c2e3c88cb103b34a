-- What the grammar of a string says is what is read.
use Rattle.std.proofs.Common.{◌≡◌, ℕ, ◌+◌, true, false, ◌&&◌, nat_eq, List, [], ◌∷◌, ◌++◌, length, drop, map, Ok, Err, refl, ap, sym, ◌∙◌, subst, arith}
use Rattle.std.proofs.lemmas.List.{append_assoc, append-nil, length-append, drop_at}
use Rattle.std.specs.List.{list_all}
use Rattle.field_text.specs.BlanksGrammar.{is_blank}
use Rattle.dns_names.specs.TextParts.{Part, Raw, Quoted, Decimal, part_byte, part_text, parts_text}
use Rattle.alt_base.proofs.Numbers.{eq_false}
use Rattle.svcb_values.specs.declared.token.Style.{Style}
use Rattle.svcb_values.specs.declared.token.Style.TheVariants.{Contiguous, InQuotes}
use Rattle.svcb_values.specs.declared.token.Token.TheVariants as token
use Rattle.svcb_values.specs.declared.unescaped.Unescaped.{Unescaped}
use Rattle.svcb_values.specs.StringGrammar.{is_raw, IsPart, AreParts, opening, is_raw_part, meant, EndsItem, SpellsString, BeginsStyle, StringGoesOn, EndsNone, IsWrongByte, IsWrongEscape, IsOpenQuote, IsByteBehindQuote}
use Rattle.svcb_values.specs.StringReading.{StringAnswer, is_end, with_end, with_byte, no_bytes, read_string}
use Rattle.svcb_values.proofs.ClassLaws.{other_byte}
use Rattle.svcb_values.proofs.TokenLaws.{token_part, token_bad_byte, token_bad_escape}
use Rattle.svcb_values.proofs.StringSteps.{reads, reads_token}
use Rattle.svcb_values.proofs.StringLoop.{begins_reads}
use Rattle.svcb_values.proofs.StringSays.{Behind, size_of, same_value, closed_text, closed_size}
use Rattle.alt_base.proofs.Booleans.{contradicts}
use Rattle.std.proofs.Math.Bool.{and-true, and_assoc}

same_reads : (style : Style) (v v' : Unescaped) (n n' : ℕ) (x x' : List ℕ) → v ≡ v' → n ≡ n' → x ≡ x' → reads style v n x ≡ reads style v' n' x'
same_reads style v v' n n' x x' e f g = cc

part_read : (style : Style) (value : Unescaped) (count : ℕ) (part : Part) (more : List ℕ) → IsPart style part
    → reads style value count (part_text part ++ more) ≡ reads style (with_byte value (part_byte part) (is_raw_part part)) (count + length (part_text part)) (drop (length (part_text part)) (part_text part ++ more))
part_read style value count (Raw b) more valid = reads_token (token.Raw b) style value count (b ∷ more) (token_part style (Raw b) more valid)
part_read style value count (Quoted b) more valid = reads_token (token.Escaped b 2) style value count (92 ∷ b ∷ more) (token_part style (Quoted b) more valid)
part_read style value count (Decimal a b c) more valid = reads_token (token.Escaped (part_byte (Decimal a b c)) 4) style value count (92 ∷ a ∷ b ∷ c ∷ more) (token_part style (Decimal a b c) more valid)

one_part : (style : Style) (value : Unescaped) (count : ℕ) (part : Part) (more : List ℕ) → IsPart style part
    → reads style value count (part_text part ++ more) ≡ reads style (with_byte value (part_byte part) (is_raw_part part)) (count + length (part_text part)) more
one_part style value count part more valid =
    part_read style value count part more valid ∙ same_reads style _ _ _ _ _ more refl refl (drop_at (part_text part) more (length (part_text part)) refl)

-- a value, and what some parts mean behind it
abbrev with_parts : Unescaped → List Part → Unescaped
with_parts value parts = record { bytes = value.bytes ++ map part_byte parts; plain = value.plain && list_all is_raw_part parts }

-- parts are passed over
parts_pass : (style : Style) (parts : List Part) (value : Unescaped) (count : ℕ) (rest : List ℕ) → AreParts style parts
    → reads style value count (parts_text parts ++ rest) ≡ reads style (with_parts value parts) (count + length (parts_text parts)) rest
parts_pass style [] value count rest valid = same_reads style _ _ _ _ rest rest (same_value _ _ _ _ (sym (append-nil value.bytes)) (sym (and-true value.plain))) (omega arith) refl
parts_pass style (part ∷ parts) value count rest valid =
    let size : length (parts_text (part ∷ parts)) ≡ length (part_text part) + length (parts_text parts) = length-append (part_text part) (parts_text parts) in
    same_reads style value value count count _ _ refl refl (append_assoc (part_text part) (parts_text parts) rest)
    ∙ one_part style value count part (parts_text parts ++ rest) valid.0
    ∙ parts_pass style parts (with_byte value (part_byte part) (is_raw_part part)) (count + length (part_text part)) rest valid.1
    ∙ same_reads style _ _ _ _ rest rest (same_value _ _ _ _ (append_assoc value.bytes (part_byte part ∷ []) (map part_byte parts)) (and_assoc value.plain (is_raw_part part) (list_all is_raw_part parts))) (omega (arith, size)) refl

behind_opening : (style : Style) (x : List ℕ) → drop (length (opening style)) (opening style ++ x) ≡ x
behind_opening Contiguous x = refl
behind_opening InQuotes x = refl

-- what stands in front of the rest is passed over
front_reads : (x : List ℕ) (style : Style) (parts : List Part) (rest : List ℕ) → Behind x style parts rest → read_string x ≡ reads style (meant parts) (size_of style parts) rest
front_reads x style parts rest behind =
    let split : drop (length (opening style)) x ≡ parts_text parts ++ rest = ap (λ xs. drop (length (opening style)) xs) behind.text ∙ behind_opening style (parts_text parts ++ rest) in
    sym (begins_reads x style behind.begins).same ∙ same_reads style _ _ _ _ _ _ refl refl split ∙ parts_pass style parts no_bytes (length (opening style)) rest behind.valid

goes_reads : (x : List ℕ) (style : Style) (rest : List ℕ) (count : ℕ) (goes : StringGoesOn x style rest count) → read_string x ≡ reads style (meant goes.parts) count rest
goes_reads x style rest count goes =
    front_reads x style goes.parts rest (record { valid = goes.valid; begins = goes.begins; text = goes.text })
    ∙ same_reads style _ _ _ _ rest rest refl (sym goes.size) refl

-- a string that isn't between quotes begins with no quote
part_begins : (part : Part) (more : List ℕ) → IsPart Contiguous part → BeginsStyle Contiguous (part_text part ++ more)
part_begins (Raw b) more valid = other_byte (is_raw Contiguous) b 34 valid refl
part_begins (Quoted b) more valid = λ e. contradicts (nat_eq 92 34) (subst (λ n. nat_eq 92 n ≡ true) e refl) refl
part_begins (Decimal a b c) more valid = λ e. contradicts (nat_eq 92 34) (subst (λ n. nat_eq 92 n ≡ true) e refl) refl

rest_begins : (rest : List ℕ) → EndsItem rest → BeginsStyle Contiguous rest
rest_begins [] ends = refl
rest_begins (b ∷ bs) ends = other_byte is_blank b 34 ends refl

style_begins : (style : Style) (parts : List Part) (rest : List ℕ) → AreParts style parts → EndsItem rest → BeginsStyle style (opening style ++ (parts_text parts ++ (opening style ++ rest)))
style_begins Contiguous [] rest valid ends = rest_begins rest ends
style_begins Contiguous (part ∷ parts) rest valid ends = subst (BeginsStyle Contiguous) (sym (append_assoc (part_text part) (parts_text parts) rest)) (part_begins part (parts_text parts ++ rest) valid.0)
style_begins InQuotes parts rest valid ends = refl

spelled_behind : (x : List ℕ) (value : Unescaped) (count : ℕ) (s : SpellsString x value count) → Behind x s.style s.parts (opening s.style ++ s.rest)
spelled_behind x value count s =
    let split : x ≡ opening s.style ++ (parts_text s.parts ++ (opening s.style ++ s.rest)) = s.text ∙ sym (closed_text s.style s.parts s.rest) in
    record { valid = s.valid; begins = subst (BeginsStyle s.style) (sym split) (style_begins s.style s.parts s.rest s.valid s.ends); text = split }

-- a string ends before a blank or the end
item_reads : (value : Unescaped) (count : ℕ) (rest : List ℕ) → EndsItem rest → reads Contiguous value count rest ≡ Ok (value, count)
item_reads value count [] ends = refl
item_reads value count (b ∷ bs) ends = rw ends refl

quote_reads : (value : Unescaped) (count : ℕ) (rest : List ℕ) → EndsItem rest → with_end value count rest ≡ Ok (value, count)
quote_reads value count [] ends = refl
quote_reads value count (b ∷ bs) ends = rw ends refl

end_reads : (style : Style) (value : Unescaped) (count : ℕ) (rest : List ℕ) → EndsItem rest → reads style value count (opening style ++ rest) ≡ Ok (value, count + length (opening style))
end_reads Contiguous value count rest ends = item_reads value count rest ends ∙ same_found value count (count + 0) (omega arith)
  where
    same_found : (v : Unescaped) (n m : ℕ) → n ≡ m → (let a : StringAnswer = Ok (v, n) in a) ≡ Ok (v, m)
    same_found v n m e = rw e refl
end_reads InQuotes value count rest ends = quote_reads value (count + 1) rest ends

pub string_read : (x : List ℕ) (value : Unescaped) (count : ℕ) → SpellsString x value count → read_string x ≡ Ok (value, count)
string_read x value count s =
    front_reads x s.style s.parts (opening s.style ++ s.rest) (spelled_behind x value count s) ∙ end_reads s.style (meant s.parts) (size_of s.style s.parts) s.rest s.ends
    ∙ same_found _ _ _ _ (sym s.means) (sym (s.size ∙ closed_size s.style s.parts))
  where
    same_found : (v v' : Unescaped) (n n' : ℕ) → v ≡ v' → n ≡ n' → (let a : StringAnswer = Ok (v, n) in a) ≡ Ok (v', n')
    same_found v v' n n' e f = rw (e, f) refl

none_ends : (style : Style) (b : ℕ) → EndsNone style b → is_end style b ≡ false
none_ends Contiguous b h = h
none_ends InQuotes b h = eq_false b 34 h

pub wrong_byte_reads : (x : List ℕ) (q : ℕ) → IsWrongByte x q → read_string x ≡ Err q
wrong_byte_reads x q s =
    goes_reads x s.style (s.byte ∷ s.rest) q s.goes
    ∙ reads_token token.Wrong s.style (meant s.goes.parts) q (s.byte ∷ s.rest) (token_bad_byte s.style s.byte s.rest s.no_backslash (none_ends s.style s.byte s.no_end) s.bad)

pub wrong_escape_reads : (x : List ℕ) (q : ℕ) → IsWrongEscape x q → read_string x ≡ Err q
wrong_escape_reads x q s =
    goes_reads x s.style (92 ∷ s.rest) q s.goes ∙ reads_token token.Wrong s.style (meant s.goes.parts) q (92 ∷ s.rest) (token_bad_escape s.style s.rest s.bad)

pub open_quote_reads : (x : List ℕ) (q : ℕ) → IsOpenQuote x q → read_string x ≡ Err q
open_quote_reads x q s = goes_reads x InQuotes [] q s

quote_refused : (value : Unescaped) (count byte : ℕ) (rest : List ℕ) → is_blank byte ≡ false → reads InQuotes value count (34 ∷ byte ∷ rest) ≡ Err (count + 1)
quote_refused value count byte rest other = rw other refl

pub byte_behind_reads : (x : List ℕ) (q : ℕ) → IsByteBehindQuote x q → read_string x ≡ Err q
byte_behind_reads x q s =
    goes_reads x InQuotes (34 ∷ s.byte ∷ s.rest) s.quote s.goes ∙ quote_refused (meant s.goes.parts) s.quote s.byte s.rest s.no_blank ∙ same_place _ _ (sym s.place)
  where
    same_place : (n m : ℕ) → n ≡ m → (let a : StringAnswer = Err n in a) ≡ Err m
    same_place n m e = rw e refl
