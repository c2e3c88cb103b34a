-- The text of an input is the input without its newline, and what hex digits spell is bytes.
use Rattle.std.proofs.Common.{◌≡◌, ℕ, ◌+◌, ◌-◌, ◌*◌, ◌<◌, inl, inr, Bool, true, false, List, [], ◌∷◌, ◌++◌, length, take, get_or, Some, refl, ap, sym, ◌∙◌, arith}
use Rattle.std.specs.Prelude.{nat_eq}
use Rattle.std.proofs.lemmas.List.{length-append, take_more, take_all}
use Rattle.std.proofs.Math.Seq.{take-append_seam, get_or-append_seam}
use Rattle.alt_base.proofs.Numbers.{true_eq}
use Rattle.hex.specs.Hex.{hex_digit_value}
use Rattle.hex_text.specs.HexGrammar.{SpellsOctet, SpellsHex}
use Rattle.dns_names.specs.Names.{AreBytes}
use Rattle.altroute_show.specs.Given.{without_newline}
use Rattle.altroute_show.specs.InputTexts.{IsInput, EndsInNewline}

-- the text

with_newline : (text : List ℕ) → without_newline (text ++ 10 ∷ []) ≡ text
with_newline text =
    let last : length (text ++ 10 ∷ []) - 1 ≡ length text = omega (arith, length-append text (10 ∷ [])) in
    rw (last, get_or-append_seam text 10 [] 0) (take-append_seam text (10 ∷ []))

ends_there : (b : ℕ) (bs : List ℕ) → nat_eq (get_or (b ∷ bs) (length (b ∷ bs) - 1) 0) 10 ≡ true → EndsInNewline (b ∷ bs)
ends_there b bs h =
    let text : List ℕ = b ∷ bs in
    let n : ℕ = length text - 1 in
    let within : n < length text = omega arith in
    let all : n + 1 ≡ length text = omega arith in
    let more : take (n + 1) text ≡ take n text ++ get_or text n 0 ∷ [] = take_more text n 0 within in
    let whole : take (n + 1) text ≡ text = take_all (n + 1) text (omega arith) in
    record { front = take n text; ends = sym whole ∙ more ∙ ap (λ c. take n text ++ c ∷ []) (true_eq (get_or text n 0) 10 h) }

without_one : (t : Bool) (b : ℕ) (bs : List ℕ) → nat_eq (get_or (b ∷ bs) (length (b ∷ bs) - 1) 0) 10 ≡ t → (EndsInNewline (b ∷ bs) → ⊥) → without_newline (b ∷ bs) ≡ b ∷ bs
without_one true b bs h none = absurd (none (ends_there b bs h))
without_one false b bs h none = rw h refl

no_newline : (text : List ℕ) → (EndsInNewline text → ⊥) → without_newline text ≡ text
no_newline [] none = refl
no_newline (b ∷ bs) none = without_one (nat_eq (get_or (b ∷ bs) (length (b ∷ bs) - 1) 0) 10) b bs refl none

pub text_of : (input text : List ℕ) → IsInput input text → without_newline input ≡ text
text_of input text (inl ended) = ap without_newline ended ∙ with_newline text
text_of input text (inr bare) = ap without_newline bare.0 ∙ no_newline text bare.1

-- octets

digit_small : (c v : ℕ) → hex_digit_value c ≡ Some v → v < 16
digit_small c v h = grind (arith)

octet_small : (high low octet : ℕ) → SpellsOctet high low octet → octet < 256
octet_small high low octet s =
    let upper : s.upper < 16 = digit_small high s.upper s.of_high in
    let lower : s.lower < 16 = digit_small low s.lower s.of_low in
    let value : octet ≡ s.upper * 16 + s.lower = s.value in
    omega (arith, upper, lower, value)

pub octets_are : (digits octets : List ℕ) → SpellsHex digits octets → AreBytes octets
octets_are [] [] s = tt
octets_are [] (octet ∷ octets) s = absurd s
octets_are (high ∷ []) [] s = absurd s
octets_are (high ∷ []) (octet ∷ octets) s = absurd s
octets_are (high ∷ low ∷ digits) [] s = absurd s
octets_are (high ∷ low ∷ digits) (octet ∷ octets) s = (octet_small high low octet s.0, octets_are digits octets s.1)
