-- Which bytes the text of a host has: it is quoted text.
use Rattle.std.proofs.Common.{◌≡◌, ◌≢◌, ℕ, ◌+◌, ◌^◌, ◌≤◌, ◌<◌, Bool, true, false, cond, ◌&&◌, ◌||◌, not, nat_eq, nat_lt, nat_le, List, [], ◌∷◌, ◌++◌, codes, refl, sym, subst, arith, inl, inr}
use Rattle.std.proofs.lemmas.Bool.Decides.{nat_tests}
use Rattle.std.proofs.lemmas.Str.Parse.{numerals_by_value, tells_digits, IsNumeralModel}
use Rattle.std.proofs.lemmas.Fmt.{digits_decimal}
use Rattle.std.specs.List.{list_any}
use Rattle.std.specs.Char.{is_ascii_digit, digit_value}
use Rattle.std.specs.Fmt.{decimal}
use Rattle.std.specs.Str.Parse.{AllDigits, digits_value}
use Rattle.std.specs.Net.Grammar.{IsDotted, IsGroupsAfter, IsColonHex}
use Rattle.std.proofs.lemmas.Bool.{and_from, not-true}
use Rattle.std.proofs.Math.Bool.{and-false}
use Rattle.alt_base.proofs.Booleans.{contradicts, third_of_four}
use Rattle.alt_base.proofs.Numbers.{true_eq, le_true, le_false, true_le, false_le}
use Rattle.alt_base.specs.Classes.{in_ranges, host_name_class}
use Rattle.field_text.specs.Runs.{AllIn}
use Rattle.field_text.specs.QuotedGrammar.{is_quoted_text}
use Rattle.field_text.proofs.RunLemmas.{AllIn-append}
use Rattle.origin_values.specs.HostGrammar.{SpellsName, SpellsHost}
use Rattle.origin_values.specs.HostReading.{are_labels}
use Rattle.origin_values.specs.Valid.{IsHost}
use Rattle.origin_values.specs.Written.{host_text}
use Rattle.origin_values.specs.declared.host.Host.{Host}
use Rattle.origin_values.specs.declared.host.Host.TheVariants.{Name, V4, V6}
use Rattle.origin_values.proofs.Names.{name_labels}
use Rattle.origin_values.proofs.HostTexts.{host_written}
use Rattle.alt_base.proofs.Conjunctions.{both}

fourth_in : (a b c d e : Bool) → d ≡ true → (a || (b || (c || (d || e)))) ≡ true
fourth_in true b c d e h = refl
fourth_in false true c d e h = refl
fourth_in false false true d e h = refl
fourth_in false false false d e h = rw h refl

low_quoted : (b : ℕ) → 35 ≤ b → b ≤ 91 → is_quoted_text b ≡ true
low_quoted b low high = third_of_four (nat_le 9 b && nat_le b 9) (nat_le 32 b && nat_le b 33) (nat_le 35 b && nat_le b 91) ((nat_le 93 b && nat_le b 126) || ((nat_le 128 b && nat_le b 255) || false)) (and_from (nat_le 35 b) (nat_le b 91) (le_true 35 b low) (le_true b 91 high))

high_quoted : (b : ℕ) → 93 ≤ b → b ≤ 126 → is_quoted_text b ≡ true
high_quoted b low high = fourth_in (nat_le 9 b && nat_le b 9) (nat_le 32 b && nat_le b 33) (nat_le 35 b && nat_le b 91) (nat_le 93 b && nat_le b 126) ((nat_le 128 b && nat_le b 255) || false) (and_from (nat_le 93 b) (nat_le b 126) (le_true 93 b low) (le_true b 126 high))

pub graphic_quoted : (b : ℕ) → 35 ≤ b → b ≤ 126 → b ≢ 92 → is_quoted_text b ≡ true
graphic_quoted b low high other = go (nat_le b 91) refl
  where
    go : (t : Bool) → nat_le b 91 ≡ t → is_quoted_text b ≡ true
    go true is = low_quoted b low (true_le b 91 is)
    go false is = let above : 91 < b = false_le b 91 is in high_quoted b (omega arith) high

-- digits
digit_quoted : (b : ℕ) → digit_value b < 16 → is_quoted_text b ≡ true
digit_quoted b h = graphic_quoted b (low b h) (high b h) (λ e. absurd (backslash (subst (λ d. digit_value d < 16) e h)))
  where
    low : (b : ℕ) → digit_value b < 16 → 35 ≤ b
    low b h = grind (arith, nat_tests)

    high : (b : ℕ) → digit_value b < 16 → b ≤ 126
    high b h = grind (arith, nat_tests)

    backslash : digit_value 92 < 16 → ⊥
    backslash h = omega arith

pub digits_in : (class : ℕ → Bool) (digit : (b : ℕ) → digit_value b < 16 → class b ≡ true) (radix : ℕ) (x : List ℕ) → radix ≤ 16 → AllDigits radix x → AllIn class x
digits_in class digit radix [] few valid = tt
digits_in class digit radix (b ∷ bs) few valid = (digit b (omega (arith, valid.0)), digits_in class digit radix bs few valid.1)

numerals : IsNumeralModel (AllDigits 10) (digits_value 10)
numerals = numerals_by_value (AllDigits 10) tells_digits

pub decimal_digits : (n : ℕ) → n < 2 ^ 64 → AllDigits 10 (decimal n)
decimal_digits n small = digits_decimal numerals n small

decimal_in : (class : ℕ → Bool) (digit : (b : ℕ) → digit_value b < 16 → class b ≡ true) (n : ℕ) → n < 256 → AllIn class (decimal n)
decimal_in class digit n small = digits_in class digit 10 (decimal n) (omega arith) (decimal_digits n (omega arith))

pub decimal_quoted : (n : ℕ) → n < 2 ^ 64 → AllIn is_quoted_text (decimal n)
decimal_quoted n small = digits_in is_quoted_text digit_quoted 10 (decimal n) (omega arith) (decimal_digits n small)

-- addresses
dotted_in : (class : ℕ → Bool) (digit : (b : ℕ) → digit_value b < 16 → class b ≡ true) (dot : class 46 ≡ true) (text octets : List ℕ) → IsDotted text octets → AllIn class text
dotted_in class digit dot text octets s =
    let join = AllIn-append class in
    let point : AllIn class (codes ".") = (dot, tt) in
    let x1 = decimal s.a ++ codes "." in
    let x2 = x1 ++ decimal s.b in
    let x3 = x2 ++ codes "." in
    let x4 = x3 ++ decimal s.c in
    let x5 = x4 ++ codes "." in
    let q1 = join (decimal s.a) (codes ".") (decimal_in class digit s.a s.fit.0) point in
    let q2 = join x1 (decimal s.b) q1 (decimal_in class digit s.b s.fit.1) in
    let q3 = join x2 (codes ".") q2 point in
    let q4 = join x3 (decimal s.c) q3 (decimal_in class digit s.c s.fit.2) in
    let q5 = join x4 (codes ".") q4 point in
    subst (AllIn class) (sym s.spelled) (join x5 (decimal s.d) q5 (decimal_in class digit s.d s.fit.3))

groups_in : (class : ℕ → Bool) (digit : (b : ℕ) → digit_value b < 16 → class b ≡ true) (dot : class 46 ≡ true) (colon : class 58 ≡ true) (ipv4 : Bool) (lead text segments : List ℕ) → AllIn class lead → IsGroupsAfter ipv4 lead text segments → AllIn class text
groups_in class digit dot colon ipv4 lead text [] h s = subst (AllIn class) (sym s) tt
groups_in class digit dot colon ipv4 lead text (seg ∷ segments) h (inl s) =
    let group = digits_in class digit 16 s.0 (omega arith) s.3.0.0.1 in
    subst (AllIn class) (sym s.2) (AllIn-append class (lead ++ s.0) s.1 (AllIn-append class lead s.0 h group) (groups_in class digit dot colon ipv4 (codes ":") s.1 segments (colon, tt) s.4))
groups_in class digit dot colon ipv4 lead text (seg ∷ segments) h (inr s) =
    subst (AllIn class) (sym s.3) (AllIn-append class lead s.0 h (dotted_in class digit dot s.0 s.1 s.4))

hex_in : (class : ℕ → Bool) (digit : (b : ℕ) → digit_value b < 16 → class b ≡ true) (dot : class 46 ≡ true) (colon : class 58 ≡ true) (text segments : List ℕ) → IsColonHex text segments → AllIn class text
hex_in class digit dot colon text segments (inl s) = groups_in class digit dot colon true [] text segments tt s.0
hex_in class digit dot colon text segments (inr s) =
    let two : AllIn class (codes "::") = (colon, (colon, tt)) in
    subst (AllIn class) (sym s.spelled) (AllIn-append class (s.head_text ++ codes "::") s.tail_text (AllIn-append class s.head_text (codes "::") (groups_in class digit dot colon false [] s.head_text s.head tt s.head_groups) two) (groups_in class digit dot colon true [] s.tail_text s.tail tt s.tail_groups))

-- names
name_byte_quoted : (b : ℕ) → in_ranges host_name_class b ≡ true → is_quoted_text b ≡ true
name_byte_quoted b h = graphic_quoted b (low (nat_le 35 b) refl) (high (nat_le b 126) refl) (λ e. contradicts (in_ranges host_name_class 92) (subst (λ c. in_ranges host_name_class c ≡ true) e h) refl)
  where
    below : b < 35 → in_ranges host_name_class b ≡ false
    below i = rw (le_false 45 b (omega arith), le_false 48 b (omega arith), le_false 65 b (omega arith), le_false 95 b (omega arith), le_false 97 b (omega arith)) refl

    above : 126 < b → in_ranges host_name_class b ≡ false
    above i = rw (le_false b 45 (omega arith), le_false b 57 (omega arith), le_false b 90 (omega arith), le_false b 95 (omega arith), le_false b 122 (omega arith))
        (rw (and-false (nat_le 45 b), and-false (nat_le 48 b), and-false (nat_le 65 b), and-false (nat_le 95 b), and-false (nat_le 97 b)) refl)

    low : (t : Bool) → nat_le 35 b ≡ t → 35 ≤ b
    low true is = true_le 35 b is
    low false is = contradicts (in_ranges host_name_class b) h (below (false_le 35 b is))

    high : (t : Bool) → nat_le b 126 ≡ t → b ≤ 126
    high true is = true_le b 126 is
    high false is = contradicts (in_ranges host_name_class b) h (above (false_le b 126 is))

labels_in : (class : ℕ → Bool) (name : (b : ℕ) → in_ranges host_name_class b ≡ true → class b ≡ true) (dot : class 46 ≡ true) (text : List ℕ) (count : ℕ) (digits : Bool) → are_labels count digits text ≡ true → AllIn class text
labels_in class name dot [] count digits h = tt
labels_in class name dot (b ∷ bs) count digits h = go (nat_eq b 46) refl h (λ c d k. labels_in class name dot bs c d k)
  where
    go : (t : Bool) → nat_eq b 46 ≡ t → cond t (nat_lt 0 count && are_labels 0 true bs) (nat_lt count 63 && (in_ranges host_name_class b && are_labels (count + 1) (digits && is_ascii_digit b) bs)) ≡ true
        → ((c : ℕ) (d : Bool) → are_labels c d bs ≡ true → AllIn class bs) → (class b ≡ true) × AllIn class bs
    go true is h rest = (subst (λ c. class c ≡ true) (sym (true_eq b 46 is)) dot, rest 0 true (both (nat_lt 0 count) (are_labels 0 true bs) h).1)
    go false is h rest =
        let inner = (both (nat_lt count 63) (in_ranges host_name_class b && are_labels (count + 1) (digits && is_ascii_digit b) bs) h).1 in
        let tests = both (in_ranges host_name_class b) (are_labels (count + 1) (digits && is_ascii_digit b) bs) inner in
        (name b tests.0, rest (count + 1) (digits && is_ascii_digit b) tests.1)

spelled_quoted : (text : List ℕ) (host : Host) → SpellsHost text host → AllIn is_quoted_text text
spelled_quoted text (Name name) s = labels_in is_quoted_text name_byte_quoted refl text 0 true (name_labels text name s)
spelled_quoted text (V4 bytes) s = dotted_in is_quoted_text digit_quoted refl text bytes s
spelled_quoted text (V6 bytes) s =
    let opening : AllIn is_quoted_text (codes "[") = (refl, tt) in
    let closing : AllIn is_quoted_text (codes "]") = (refl, tt) in
    let inner = hex_in is_quoted_text digit_quoted refl refl s.inner s.address.groups s.address.spelled in
    subst (AllIn is_quoted_text) (sym s.spelled) (AllIn-append is_quoted_text (codes "[" ++ s.inner) (codes "]") (AllIn-append is_quoted_text (codes "[") s.inner opening inner) closing)

pub host_quoted : (host : Host) → IsHost host → AllIn is_quoted_text (host_text host)
host_quoted host valid = spelled_quoted (host_text host) host (host_written host valid)

-- a byte other than this one
abbrev pub is_other : ℕ → ℕ → Bool
is_other byte b = not (nat_eq b byte)

other_digit : (byte b : ℕ) → (digit_value byte < 16 → ⊥) → digit_value b < 16 → is_other byte b ≡ true
other_digit byte b none h = go (nat_eq b byte) refl
  where
    go : (t : Bool) → nat_eq b byte ≡ t → not t ≡ true
    go true is = absurd (none (subst (λ d. digit_value d < 16) (true_eq b byte is) h))
    go false is = refl

other_name : (byte b : ℕ) → in_ranges host_name_class byte ≡ false → in_ranges host_name_class b ≡ true → is_other byte b ≡ true
other_name byte b none h = go (nat_eq b byte) refl
  where
    go : (t : Bool) → nat_eq b byte ≡ t → not t ≡ true
    go true is = contradicts (in_ranges host_name_class byte) (subst (λ d. in_ranges host_name_class d ≡ true) (true_eq b byte is) h) none
    go false is = refl

pub none_of : (byte : ℕ) (x : List ℕ) → AllIn (is_other byte) x → list_any (λ b. nat_eq b byte) x ≡ false
none_of byte [] h = refl
none_of byte (b ∷ bs) h = rw (not-true (nat_eq b byte) h.0) (none_of byte bs h.1)

-- a name and an IPv4 address have neither a colon nor an opening bracket, and an IPv6 address has no closing one
pub name_without : (byte : ℕ) (text name : List ℕ) → in_ranges host_name_class byte ≡ false → is_other byte 46 ≡ true → SpellsName text name → list_any (λ b. nat_eq b byte) text ≡ false
name_without byte text name none dot s = none_of byte text (labels_in (is_other byte) (λ b h. other_name byte b none h) dot text 0 true (name_labels text name s))

pub dotted_without : (byte : ℕ) (text octets : List ℕ) → (digit_value byte < 16 → ⊥) → is_other byte 46 ≡ true → IsDotted text octets → list_any (λ b. nat_eq b byte) text ≡ false
dotted_without byte text octets none dot s = none_of byte text (dotted_in (is_other byte) (λ b h. other_digit byte b none h) dot text octets s)

pub hex_without : (byte : ℕ) (text segments : List ℕ) → (digit_value byte < 16 → ⊥) → is_other byte 46 ≡ true → is_other byte 58 ≡ true → IsColonHex text segments → list_any (λ b. nat_eq b byte) text ≡ false
hex_without byte text segments none dot colon s = none_of byte text (hex_in (is_other byte) (λ b h. other_digit byte b none h) dot colon text segments s)
