-- What the reading of a string says is what its grammar says.
use Rattle.std.proofs.Common.{◌≡◌, ◌⊎◌, ℕ, ◌+◌, ◌<◌, ◌≤◌, List, [], ◌∷◌, ◌++◌, length, map, Ok, Err, ap, sym, ◌∙◌, subst, arith, inl, inr}
use Rattle.std.proofs.lemmas.List.{length-append}
use Rattle.dns_names.specs.Names.{AreBytes}
use Rattle.dns_names.specs.TextParts.{Part, Raw, Quoted, Decimal, part_byte, parts_text}
use Rattle.svcb_values.specs.declared.token.Style.{Style}
use Rattle.svcb_values.specs.declared.token.Style.TheVariants.{InQuotes}
use Rattle.svcb_values.specs.declared.unescaped.Unescaped.{Unescaped}
use Rattle.svcb_values.specs.StringGrammar.{IsPart, AreParts, opening, string_text, SpellsString, StringGoesOn, StringRefusedAt, OneString}
use Rattle.svcb_values.specs.StringReading.{StringAnswer, read_string}
use Rattle.svcb_values.proofs.ClassLaws.{raw_bound, escapable_bound}
use Rattle.svcb_values.proofs.StringSays.{StringSays, string_says}
use Rattle.svcb_values.proofs.StringSpelled.{string_read, wrong_byte_reads, wrong_escape_reads, open_quote_reads, byte_behind_reads}

pub string_spells : (x : List ℕ) (value : Unescaped) (count : ℕ) → read_string x ≡ Ok (value, count) → SpellsString x value count
string_spells x value count e = subst (StringSays x) e (string_says x)

pub string_refuses : (x : List ℕ) (q : ℕ) → read_string x ≡ Err q → StringRefusedAt x q
string_refuses x q e = subst (StringSays x) e (string_says x)

pub string_refused : (x : List ℕ) (q : ℕ) → StringRefusedAt x q → read_string x ≡ Err q
string_refused x q (inl s) = wrong_byte_reads x q s
string_refused x q (inr (inl s)) = wrong_escape_reads x q s
string_refused x q (inr (inr (inl s))) = open_quote_reads x q s
string_refused x q (inr (inr (inr s))) = byte_behind_reads x q s

part_bound : (style : Style) (part : Part) → IsPart style part → part_byte part < 256
part_bound style (Raw b) valid = raw_bound style b valid
part_bound style (Quoted b) valid = escapable_bound style b valid.0
part_bound style (Decimal a b c) valid = omega (arith, valid.3)

parts_bytes : (style : Style) (parts : List Part) → AreParts style parts → AreBytes (map part_byte parts)
parts_bytes style [] valid = tt
parts_bytes style (part ∷ parts) valid = (part_bound style part valid.0, parts_bytes style parts valid.1)

-- what a string stands for are bytes
pub string_bytes : (x : List ℕ) (value : Unescaped) (count : ℕ) → AreBytes x → read_string x ≡ Ok (value, count) → AreBytes value.bytes
string_bytes x value count bytes e =
    let s = string_spells x value count e in
    subst AreBytes (sym (ap (λ (v : Unescaped). v.bytes) s.means)) (parts_bytes s.style s.parts s.valid)

-- a string doesn't go past the text
pub string_within : (x : List ℕ) (value : Unescaped) (count : ℕ) → read_string x ≡ Ok (value, count) → count ≤ length x
string_within x value count e =
    let s = string_spells x value count e in
    omega (arith, s.size, ap length s.text, length-append (string_text s.style s.parts) s.rest)

goes_size : (x : List ℕ) (style : Style) (rest : List ℕ) (count : ℕ) → StringGoesOn x style rest count → count + length rest ≡ length x
goes_size x style rest count goes =
    omega (arith, goes.size, ap length goes.text, length-append (opening style) (parts_text goes.parts ++ rest), length-append (parts_text goes.parts) rest)

refused_within : (x : List ℕ) (q : ℕ) → StringRefusedAt x q → q ≤ length x
refused_within x q (inl s) = omega (arith, goes_size x s.style (s.byte ∷ s.rest) q s.goes)
refused_within x q (inr (inl s)) = omega (arith, goes_size x s.style (92 ∷ s.rest) q s.goes)
refused_within x q (inr (inr (inl s))) = omega (arith, goes_size x InQuotes [] q s)
refused_within x q (inr (inr (inr s))) = omega (arith, s.place, goes_size x InQuotes (34 ∷ s.byte ∷ s.rest) s.quote s.goes)

-- nor does the place of what is wrong
pub string_place : (x : List ℕ) (q : ℕ) → read_string x ≡ Err q → q ≤ length x
string_place x q e = refused_within x q (string_refuses x q e)

either_says : (x : List ℕ) (r : StringAnswer) → StringSays x r → ((value : Unescaped) × (count : ℕ) × SpellsString x value count) ⊎ ((q : ℕ) × StringRefusedAt x q)
either_says x (Ok found) s = inl (found.0, found.1, s)
either_says x (Err q) s = inr (q, s)

same_ok : (value value' : Unescaped) (count count' : ℕ) → (let a : StringAnswer = Ok (value, count) in a) ≡ Ok (value', count') → (value ≡ value') × (count ≡ count')
same_ok value value' count count' e =
    let h : (let a : Unescaped × ℕ = (value, count) in a) ≡ (let b : Unescaped × ℕ = (value', count') in b) = cc in
    (ap (λ (a : Unescaped × ℕ). a.0) h, ap (λ (a : Unescaped × ℕ). a.1) h)

same_place : (q q' : ℕ) → (let a : StringAnswer = Err q in a) ≡ Err q' → q ≡ q'
same_place q q' e = cc

no_both : (value : Unescaped) (count q : ℕ) (r : StringAnswer) → r ≡ Ok (value, count) → r ≡ Err q → ⊥
no_both value count q r a b = cc

-- exactly one string or exactly one refusal
pub one_of : (x : List ℕ) → OneString x
one_of x = record {
  some = either_says x (read_string x) (string_says x);
  one_value = λ value value' count count' a b. same_ok value value' count count' (sym (string_read x value count a) ∙ string_read x value' count' b);
  one_place = λ q q' a b. same_place q q' (sym (string_refused x q a) ∙ string_refused x q' b);
  not_both = λ value count q a b. no_both value count q (read_string x) (string_read x value count a) (string_refused x q b);
}
