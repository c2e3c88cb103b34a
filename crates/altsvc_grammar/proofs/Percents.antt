-- The encoded form of a protocol is a token that is read as the protocol, up to the first bad `%`.
use Rattle.std.proofs.Common.{◌≡◌, ℕ, zero, suc, ◌+◌, ◌*◌, ◌/◌, ◌%◌, ◌≤◌, ◌<◌, Bool, true, false, cond, ◌&&◌, not, nat_eq, List, [], ◌∷◌, ◌++◌, length, All, None, Ok, refl, ap, sym, ◌∙◌, arith, length-append, append_assoc}
use Rattle.std.proofs.lemmas.Bool.Decides.{nat_tests}
use Rattle.std.proofs.lemmas.List.Elements.{All-head, All-tail}
use Rattle.std.specs.Fmt.{digit_glyph}
use Rattle.std.proofs.lemmas.Bool.{not-true}
use Rattle.std.proofs.lemmas.List.{append-nil}
use Rattle.alt_base.proofs.Numbers.{false_eq, lt_true, lt_false}
use Rattle.percent_encoding.specs.Percent.{percent_encode_byte, percent_decode}
use Rattle.percent_encoding.proofs.PercentLemmas.{percent_decode-nil, percent_decode-percent_encode_byte, percent_decode_not_percent}
use Rattle.field_text.specs.Runs.{AllIn}
use Rattle.field_text.specs.TokenGrammar.{is_token}
use Rattle.field_text.proofs.RunLemmas.{AllIn-append}
use Rattle.altsvc_grammar.specs.Written.{is_plain, encoded_byte, encoded}
use Rattle.altsvc_grammar.specs.ProtocolReading.{is_upper_hex, hex_value, is_coded, bad_percent, read_protocol}
use Rattle.altsvc_grammar.specs.AuthorityGrammar.{IsProtocol}
use Rattle.altsvc_grammar.specs.ParameterGrammar.{IsToken}
use Rattle.altsvc_grammar.specs.Steps.{refused}
use Rattle.altsvc_grammar.specs.declared.refusal.AltRefusal.TheVariants.{BadToken, BadPercent}
use Rattle.alt_base.proofs.Conjunctions.{both}

-- what holds of the digits 0 to 15
for_each_digit : (P : ℕ → Type 0) → P 0 → P 1 → P 2 → P 3 → P 4 → P 5 → P 6 → P 7 → P 8 → P 9 → P 10 → P 11 → P 12 → P 13 → P 14 → P 15 → (d : ℕ) → d < 16 → P d
for_each_digit P a b c d e f g h i j k l m n o p zero small = a
for_each_digit P a b c d e f g h i j k l m n o p (suc zero) small = b
for_each_digit P a b c d e f g h i j k l m n o p (suc (suc zero)) small = c
for_each_digit P a b c d e f g h i j k l m n o p (suc (suc (suc zero))) small = d
for_each_digit P a b c d e f g h i j k l m n o p (suc (suc (suc (suc zero)))) small = e
for_each_digit P a b c d e f g h i j k l m n o p (suc (suc (suc (suc (suc zero))))) small = f
for_each_digit P a b c d e f g h i j k l m n o p (suc (suc (suc (suc (suc (suc zero)))))) small = g
for_each_digit P a b c d e f g h i j k l m n o p (suc (suc (suc (suc (suc (suc (suc zero))))))) small = h
for_each_digit P a b c d e f g h i j k l m n o p (suc (suc (suc (suc (suc (suc (suc (suc zero)))))))) small = i
for_each_digit P a b c d e f g h i j k l m n o p (suc (suc (suc (suc (suc (suc (suc (suc (suc zero))))))))) small = j
for_each_digit P a b c d e f g h i j k l m n o p (suc (suc (suc (suc (suc (suc (suc (suc (suc (suc zero)))))))))) small = k
for_each_digit P a b c d e f g h i j k l m n o p (suc (suc (suc (suc (suc (suc (suc (suc (suc (suc (suc zero))))))))))) small = l
for_each_digit P a b c d e f g h i j k l m n o p (suc (suc (suc (suc (suc (suc (suc (suc (suc (suc (suc (suc zero)))))))))))) small = m
for_each_digit P a b c d e f g h i j k l m n o p (suc (suc (suc (suc (suc (suc (suc (suc (suc (suc (suc (suc (suc zero))))))))))))) small = n
for_each_digit P a b c d e f g h i j k l m n o p (suc (suc (suc (suc (suc (suc (suc (suc (suc (suc (suc (suc (suc (suc zero)))))))))))))) small = o
for_each_digit P a b c d e f g h i j k l m n o p (suc (suc (suc (suc (suc (suc (suc (suc (suc (suc (suc (suc (suc (suc (suc zero))))))))))))))) small = p
for_each_digit P a b c d e f g h i j k l m n o p (suc (suc (suc (suc (suc (suc (suc (suc (suc (suc (suc (suc (suc (suc (suc (suc r)))))))))))))))) small = absurd (omega arith)

-- a digit's byte is a token's, upper-case hex, of that value, and no `%`
pub record IsGlyph (d : ℕ) : Type 0 where
  pub token : is_token (digit_glyph true d) ≡ true
  pub hex : is_upper_hex (digit_glyph true d) ≡ true
  pub value : hex_value (digit_glyph true d) ≡ d
  pub no_percent : nat_eq (digit_glyph true d) 37 ≡ false

pub glyph : (d : ℕ) → d < 16 → IsGlyph d
glyph d small =
    for_each_digit IsGlyph (record { token = refl; hex = refl; value = refl; no_percent = refl }) (record { token = refl; hex = refl; value = refl; no_percent = refl }) (record { token = refl; hex = refl; value = refl; no_percent = refl }) (record { token = refl; hex = refl; value = refl; no_percent = refl })
    (record { token = refl; hex = refl; value = refl; no_percent = refl }) (record { token = refl; hex = refl; value = refl; no_percent = refl }) (record { token = refl; hex = refl; value = refl; no_percent = refl }) (record { token = refl; hex = refl; value = refl; no_percent = refl })
    (record { token = refl; hex = refl; value = refl; no_percent = refl }) (record { token = refl; hex = refl; value = refl; no_percent = refl }) (record { token = refl; hex = refl; value = refl; no_percent = refl }) (record { token = refl; hex = refl; value = refl; no_percent = refl })
    (record { token = refl; hex = refl; value = refl; no_percent = refl }) (record { token = refl; hex = refl; value = refl; no_percent = refl }) (record { token = refl; hex = refl; value = refl; no_percent = refl }) (record { token = refl; hex = refl; value = refl; no_percent = refl })
    d small

-- the bytes of an escape
pub high_digit : (b : ℕ) → b / 16 % 16 < 16
high_digit b = omega arith

pub low_digit : (b : ℕ) → b % 16 < 16
low_digit b = omega arith

digits_of : (b : ℕ) → b < 256 → 16 * (b / 16 % 16) + b % 16 ≡ b
digits_of b small = omega arith

coded_value : (b : ℕ) → b < 256 → 16 * hex_value (digit_glyph true (b / 16 % 16)) + hex_value (digit_glyph true (b % 16)) ≡ b
coded_value b small = rw ((glyph (b / 16 % 16) (high_digit b)).value, (glyph (b % 16) (low_digit b)).value) (digits_of b small)

pub escape_coded : (b : ℕ) (y : List ℕ) → b < 256 → is_plain b ≡ false → is_coded (digit_glyph true (b / 16 % 16) ∷ digit_glyph true (b % 16) ∷ y) ≡ true
escape_coded b y small escaped = rw ((glyph (b / 16 % 16) (high_digit b)).hex, (glyph (b % 16) (low_digit b)).hex, coded_value b small, escaped) refl

-- one byte's spelling
byte_tokens : (b : ℕ) → AllIn is_token (encoded_byte b)
unfolding percent_encode_byte
byte_tokens b = go (is_plain b) refl
  where
    go : (t : Bool) → is_plain b ≡ t → AllIn is_token (cond t (b ∷ []) (percent_encode_byte b))
    go true is = ((both (is_token b) (not (nat_eq b 37)) is).0, tt)
    go false is = (refl, ((glyph (b / 16 % 16) (high_digit b)).token, ((glyph (b % 16) (low_digit b)).token, tt)))

pub encoded_tokens : (bs : List ℕ) → AllIn is_token (encoded bs)
encoded_tokens [] = tt
encoded_tokens (b ∷ bs) = AllIn-append is_token (encoded_byte b) (encoded bs) (byte_tokens b) (encoded_tokens bs)

-- a good byte is passed
byte_passed : (p b : ℕ) (y : List ℕ) → b < 256 → bad_percent p (encoded_byte b ++ y) ≡ bad_percent (p + length (encoded_byte b)) y
unfolding percent_encode_byte
byte_passed p b y small = go (is_plain b) refl
  where
    go : (t : Bool) → is_plain b ≡ t → bad_percent p (cond t (b ∷ []) (percent_encode_byte b) ++ y) ≡ bad_percent (p + length (cond t (b ∷ []) (percent_encode_byte b))) y
    go true is = let no = not-true (nat_eq b 37) (both (is_token b) (not (nat_eq b 37)) is).1 in rw no refl
    go false is =
        let three : p + 1 + 1 + 1 ≡ p + 3 = omega arith in
        rw (escape_coded b y small is, (glyph (b / 16 % 16) (high_digit b)).no_percent, (glyph (b % 16) (low_digit b)).no_percent) (ap (λ q. bad_percent q y) three)

pub encoded_passed : (bs : List ℕ) (p : ℕ) (y : List ℕ) → All (λ b. b < 256) bs → bad_percent p (encoded bs ++ y) ≡ bad_percent (p + length (encoded bs)) y
encoded_passed [] p y small = ap (λ q. bad_percent q y) (omega arith)
encoded_passed (b ∷ bs) p y small =
    let q : p + length (encoded_byte b) + length (encoded bs) ≡ p + length (encoded_byte b ++ encoded bs) = omega (arith, length-append (encoded_byte b) (encoded bs)) in
    rw append_assoc (byte_passed p b (encoded bs ++ y) (All-head (λ c. c < 256) b bs small) ∙ encoded_passed bs (p + length (encoded_byte b)) y (All-tail (λ c. c < 256) b bs small) ∙ ap (λ r. bad_percent r y) q)

-- and decoded
byte_decoded : (b : ℕ) (y : List ℕ) → b < 256 → percent_decode (encoded_byte b ++ y) ≡ b ∷ percent_decode y
byte_decoded b y small = go (is_plain b) refl
  where
    go : (t : Bool) → is_plain b ≡ t → percent_decode (cond t (b ∷ []) (percent_encode_byte b) ++ y) ≡ b ∷ percent_decode y
    go true is = percent_decode_not_percent b y (false_eq b 37 (not-true (nat_eq b 37) (both (is_token b) (not (nat_eq b 37)) is).1))
    go false is = percent_decode-percent_encode_byte b y small

pub encoded_decoded : (bs : List ℕ) → All (λ b. b < 256) bs → percent_decode (encoded bs) ≡ bs
encoded_decoded [] small = percent_decode-nil
encoded_decoded (b ∷ bs) small = byte_decoded b (encoded bs) (All-head (λ c. c < 256) b bs small) ∙ ap (λ cs. b ∷ cs) (encoded_decoded bs (All-tail (λ c. c < 256) b bs small))

none_bad : (p : ℕ) (bs : List ℕ) → All (λ b. b < 256) bs → bad_percent p (encoded bs) ≡ None
none_bad p bs small = ap (bad_percent p) (sym (append-nil (encoded bs))) ∙ encoded_passed bs p [] small

pub protocol_read : (p : ℕ) (proto : List ℕ) → IsProtocol proto → read_protocol p (encoded proto) ≡ Ok proto
protocol_read p proto is = rw (none_bad p proto is.bytes, encoded_decoded proto is.bytes, lt_false 255 (length proto) is.short) refl

pub long_protocol_read : (p : ℕ) (proto : List ℕ) → All (λ b. b < 256) proto → 255 < length proto → read_protocol p (encoded proto) ≡ refused p BadToken
long_protocol_read p proto small long = rw (none_bad p proto small, encoded_decoded proto small, lt_true 255 (length proto) long) refl

-- upper-case hex digits that code a byte are its escape
hex_below : (h : ℕ) → is_upper_hex h ≡ true → hex_value h < 16
hex_below h is = grind (arith, nat_tests)

hex_glyph : (h : ℕ) → is_upper_hex h ≡ true → digit_glyph true (hex_value h) ≡ h
hex_glyph h is = grind (arith, nat_tests)

pub record Coded (more : List ℕ) : Type 0 where
  pub byte : ℕ
  pub after : List ℕ
  pub small : byte < 256
  pub text : 37 ∷ more ≡ encoded_byte byte ++ after

of_digits : (a b : ℕ) → a < 16 → b < 16 → ((16 * a + b) / 16 % 16 ≡ a) × ((16 * a + b) % 16 ≡ b)
of_digits a b h k = (omega arith, omega arith)

pub coded : (more : List ℕ) → is_coded more ≡ true → Coded more
unfolding percent_encode_byte
coded [] h = cc
coded (a ∷ []) h = cc
coded (a ∷ b ∷ bs) h =
    let outer = both (is_upper_hex a) (is_upper_hex b && not (is_plain (16 * hex_value a + hex_value b))) h in
    let inner = both (is_upper_hex b) (not (is_plain (16 * hex_value a + hex_value b))) outer.1 in
    let escaped = not-true (is_plain (16 * hex_value a + hex_value b)) inner.1 in
    let low = hex_below a outer.0 in
    let low' = hex_below b inner.0 in
    let parts = of_digits (hex_value a) (hex_value b) low low' in
    record {
      byte = 16 * hex_value a + hex_value b;
      after = bs;
      small = omega arith;
      text = rw (escaped, parts.0, parts.1, hex_glyph a outer.0, hex_glyph b inner.0) refl;
    }

not_coded : (more : List ℕ) → ((byte : ℕ) (after : List ℕ) → byte < 256 → 37 ∷ more ≡ encoded_byte byte ++ after → ⊥) → is_coded more ≡ false
not_coded more bad = go (is_coded more) refl
  where
    go : (t : Bool) → is_coded more ≡ t → t ≡ false
    go true is = let c = coded more is in absurd (bad c.byte c.after c.small c.text)
    go false is = refl

pub bad_percent_read : (p : ℕ) (good more : List ℕ) → All (λ b. b < 256) good → ((byte : ℕ) (after : List ℕ) → byte < 256 → 37 ∷ more ≡ encoded_byte byte ++ after → ⊥)
    → read_protocol p (encoded good ++ 37 ∷ more) ≡ refused (p + length (encoded good)) BadPercent
bad_percent_read p good more small bad = rw (encoded_passed good p (37 ∷ more) small, not_coded more bad) refl

pub byte_length : (b : ℕ) → 1 ≤ length (encoded_byte b)
unfolding percent_encode_byte
byte_length b = go (is_plain b)
  where
    go : (t : Bool) → 1 ≤ length (cond t (b ∷ []) (percent_encode_byte b))
    go true = omega arith
    go false = omega arith

encoded_length : (bs : List ℕ) → length bs ≤ length (encoded bs)
encoded_length [] = omega arith
encoded_length (b ∷ bs) = omega (arith, length-append (encoded_byte b) (encoded bs), byte_length b, encoded_length bs)

pub encoded_token : (bs : List ℕ) → 0 < length bs → IsToken (encoded bs)
encoded_token bs some = record { some = λ e. absurd (omega (arith, encoded_length bs, ap length e)); valid = encoded_tokens bs }

pub bad_token : (good more : List ℕ) → AllIn is_token more → IsToken (encoded good ++ 37 ∷ more)
bad_token good more valid = record {
  some = λ e. absurd (omega (arith, length-append (encoded good) (37 ∷ more), ap length e));
  valid = AllIn-append is_token (encoded good) (37 ∷ more) (encoded_tokens good) (refl, valid);
}
