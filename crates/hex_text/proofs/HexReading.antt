-- Hex digits are read as what they spell.
use Rattle.std.proofs.Common.{◌≡◌, ℕ, ◌+◌, ◌*◌, ◌%◌, ◌==◌, Bool, true, false, List, [], ◌∷◌, length, Option, Some, None, Result, Ok, Err, refl, ap, sym, ◌∙◌, subst, arith}
use Rattle.hex.specs.Hex.{hex_digit_value, digit_or_error, pair_value, decode_pairs, decode_of, ◌>>=◌}
use Rattle.hex.specs.declared.error.FromHexError.{FromHexError}
use Rattle.hex.proofs.Pairs.{decode_pairs-ok_pair, cons_byte}
use Rattle.hex.proofs.HexLemmas.{decode_of-even}
use Rattle.hex_text.specs.HexGrammar.{SpellsHex}

two_each : (digits octets : List ℕ) → SpellsHex digits octets → length digits ≡ 2 * length octets
two_each [] [] s = refl
two_each [] (octet ∷ octets) s = absurd s
two_each (high ∷ []) [] s = absurd s
two_each (high ∷ []) (octet ∷ octets) s = absurd s
two_each (high ∷ low ∷ digits) [] s = absurd s
two_each (high ∷ low ∷ digits) (octet ∷ octets) s =
    let e : length digits ≡ 2 * length octets = two_each digits octets s.1 in
    omega (arith, e)

pairs_read : (i : ℕ) (digits octets : List ℕ) → SpellsHex digits octets → decode_pairs i digits ≡ Ok octets
unfolding decode_pairs
pairs_read i [] [] s = refl
pairs_read i [] (octet ∷ octets) s = absurd s
pairs_read i (high ∷ []) [] s = absurd s
pairs_read i (high ∷ []) (octet ∷ octets) s = absurd s
pairs_read i (high ∷ low ∷ digits) [] s = absurd s
pairs_read i (high ∷ low ∷ digits) (octet ∷ octets) s =
    let pair : pair_value high low i ≡ Ok octet = rw (s.0.of_high, s.0.of_low) (ap Ok (sym s.0.value)) in
    decode_pairs-ok_pair i high low octet digits pair ∙ ap (cons_byte octet) (pairs_read (i + 2) digits octets s.1)

pub hex_read : (digits octets : List ℕ) → SpellsHex digits octets → decode_of digits ≡ Ok octets
hex_read digits octets s =
    let e : length digits ≡ 2 * length octets = two_each digits octets s in
    decode_of-even digits (omega (arith, e)) ∙ pairs_read 0 digits octets s

pair_spelled : (high low i : ℕ) (digits octets : List ℕ) (u v : Option ℕ) (rest : Result (List ℕ) FromHexError) → hex_digit_value high ≡ u → hex_digit_value low ≡ v
    → ((bytes : List ℕ) → rest ≡ Ok bytes → SpellsHex digits bytes)
    → ((digit_or_error high i u >>= (λ h. digit_or_error low (i + 1) v >>= (λ l. Ok (h * 16 + l)))) >>= (λ byte. rest >>= (λ bytes. Ok (byte ∷ bytes)))) ≡ Ok octets
    → SpellsHex (high ∷ low ∷ digits) octets
pair_spelled high low i digits octets None v rest hu hv next e = cc e
pair_spelled high low i digits octets (Some u) None rest hu hv next e = cc e
pair_spelled high low i digits octets (Some u) (Some v) (Err error) hu hv next e = cc e
pair_spelled high low i digits octets (Some u) (Some v) (Ok bytes) hu hv next e =
    let same : (u * 16 + v) ∷ bytes ≡ octets = cc in
    subst (λ os. SpellsHex (high ∷ low ∷ digits) os) same (record { upper = u; lower = v; of_high = hu; of_low = hv; value = refl }, next bytes refl)

pairs_spelled : (i : ℕ) (digits octets : List ℕ) → decode_pairs i digits ≡ Ok octets → SpellsHex digits octets
unfolding decode_pairs
pairs_spelled i [] [] e = tt
pairs_spelled i [] (octet ∷ octets) e = cc e
pairs_spelled i (digit ∷ []) octets e = cc e
pairs_spelled i (high ∷ low ∷ digits) octets e =
    pair_spelled high low i digits octets (hex_digit_value high) (hex_digit_value low) (decode_pairs (i + 2) digits) refl refl (λ bytes r. pairs_spelled (i + 2) digits bytes r) e

spelled_by : (odd : Bool) (digits octets : List ℕ) → (length digits % 2 == 1) ≡ odd → decode_of digits ≡ Ok octets → SpellsHex digits octets
spelled_by true digits octets h e = cc (rw h at e)
spelled_by false digits octets h e = pairs_spelled 0 digits octets (rw h at e)

pub hex_spelled : (digits octets : List ℕ) → decode_of digits ≡ Ok octets → SpellsHex digits octets
hex_spelled digits octets e = spelled_by (length digits % 2 == 1) digits octets refl e
