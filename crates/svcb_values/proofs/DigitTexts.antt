-- Numbers of one to five digits, with leading zeros or without.
use Rattle.std.proofs.Common.{◌≡◌, ℕ, zero, suc, ◌+◌, ◌-◌, ◌*◌, ◌^◌, ◌<◌, ◌≤◌, Bool, true, false, cond, ◌&&◌, nat_le, List, [], ◌∷◌, length, drop, get_or, decimal, Option, Some, None, refl, ap, sym, ◌∙◌, subst, arith, add-one}
use Rattle.std.proofs.Math.Nat.{pow-le-pow_right}
use Rattle.std.proofs.Math.Seq.{drop-cons}
use Rattle.std.specs.List.{list_all}
use Rattle.std.specs.Char.{is_ascii_digit, digit_value}
use Rattle.std.specs.Cmp.Lexicographic.{same_text}
use Rattle.std.specs.Str.Parse.{AllDigits, IsNumeral, digits_value, digits_value_after}
use Rattle.std.proofs.lemmas.Fmt.{decimal-digits_value, decimal_is_IsNumeral, decimal_digit, first_decimal, length-decimal-le}
use Rattle.std.proofs.lemmas.Int.Digits.{digits_value-lt}
use Rattle.std.proofs.lemmas.Str.Parse.{IsNumeralModel, numerals_by_value, tells_digits}
use Rattle.alt_base.proofs.Conjunctions.{both}
use Rattle.alt_base.proofs.Numbers.{eq_true, true_le, le_true}
use Rattle.svcb_values.specs.KeyNames.{number_of, is_text}
use Rattle.svcb_values.specs.ValueGrammar.{SpellsPort}
use Rattle.svcb_values.specs.ValueReading.{read_port}
use Rattle.alt_base.proofs.Digits.{all_digits, value_grows, value_of_digit, digits_all}

numerals : IsNumeralModel (AllDigits 10) (digits_value 10)
numerals = numerals_by_value (AllDigits 10) tells_digits

-- at most five digits write a number below 100,000
short_value : (ds : List ℕ) → list_all is_ascii_digit ds ≡ true → length ds ≤ 5 → digits_value 10 ds < 100000
short_value ds h short =
    let bound : 10 ^ length ds ≤ 10 ^ 5 = pow-le-pow_right (omega arith) short in
    omega (arith, digits_value-lt 10 ds (all_digits ds h), bound)

-- more digits only make the value larger
room_here : (v b total : ℕ) (rest : List ℕ) → list_all is_ascii_digit (b ∷ rest) ≡ true → digits_value_after 10 v (b ∷ rest) ≡ total → v * 10 + (b - 48) ≤ total
room_here v b total rest digits is =
    let t = both (is_ascii_digit b) (list_all is_ascii_digit rest) digits in
    omega (arith, value_grows rest (v * 10 + digit_value b), value_of_digit b t.0)

-- the loop: there is room for one digit more
pub room : (v i : ℕ) (ds : List ℕ) → i < length ds → length ds ≤ 5 → list_all is_ascii_digit ds ≡ true → list_all is_ascii_digit (drop i ds) ≡ true
    → digits_value_after 10 v (drop i ds) ≡ digits_value 10 ds → v * 10 + (get_or ds i 0 - 48) < 100000
room v i ds inside short all digits is =
    let split : drop i ds ≡ get_or ds i 0 ∷ drop (i + 1) ds = rw add-one (drop-cons ds i 0 inside) in
    let most = room_here v (get_or ds i 0) (digits_value 10 ds) (drop (i + 1) ds) (subst (λ xs. list_all is_ascii_digit xs ≡ true) split digits) (subst (λ xs. digits_value_after 10 v xs ≡ digits_value 10 ds) split is) in
    omega (arith, most, short_value ds all short)

pub port_spells : (text : List ℕ) (port : ℕ) → read_port text ≡ Some port → SpellsPort text port
port_spells [] port h = cc
port_spells (b ∷ bs) port h = go (list_all is_ascii_digit (b ∷ bs) && (nat_le (length (b ∷ bs)) 5 && nat_le (digits_value 10 (b ∷ bs)) 65535)) refl h
  where
    go : (t : Bool) → (list_all is_ascii_digit (b ∷ bs) && (nat_le (length (b ∷ bs)) 5 && nat_le (digits_value 10 (b ∷ bs)) 65535)) ≡ t
        → cond t (Some (digits_value 10 (b ∷ bs))) None ≡ Some port → SpellsPort (b ∷ bs) port
    go false is e = cc
    go true is e =
        let t = both (list_all is_ascii_digit (b ∷ bs)) (nat_le (length (b ∷ bs)) 5 && nat_le (digits_value 10 (b ∷ bs)) 65535) is in
        let u = both (nat_le (length (b ∷ bs)) 5) (nat_le (digits_value 10 (b ∷ bs)) 65535) t.1 in
        let value : port ≡ digits_value 10 (b ∷ bs) = cc in
        record {
          numeral = (omega arith, all_digits (b ∷ bs) t.0);
          short = true_le _ _ u.0;
          value = value;
          most = omega (arith, true_le (digits_value 10 (b ∷ bs)) 65535 u.1, value);
        }

pub port_read : (text : List ℕ) (port : ℕ) → SpellsPort text port → read_port text ≡ Some port
port_read [] port s = absurd (omega (arith, s.numeral.0))
port_read (b ∷ bs) port s =
    rw (digits_all (b ∷ bs) s.numeral.1, le_true (length (b ∷ bs)) 5 s.short, le_true (digits_value 10 (b ∷ bs)) 65535 (omega (arith, s.value, s.most))) (ap Some (sym s.value))

same_bytes : (x : List ℕ) → is_text x x ≡ true
same_bytes [] = refl
same_bytes (b ∷ bs) = rw (eq_true b b refl) (same_bytes bs)

-- what a number is: the text that it is written as
pub number_is : (text : List ℕ) (n : ℕ) → number_of text ≡ Some n → (text ≡ decimal n) × (n < 65536)
number_is [] n h = cc
number_is (b ∷ bs) n h = go ((list_all is_ascii_digit (b ∷ bs) && nat_le (length (b ∷ bs)) 5) && (nat_le (digits_value 10 (b ∷ bs)) 65535 && is_text (b ∷ bs) (decimal (digits_value 10 (b ∷ bs))))) refl h
  where
    go : (t : Bool) → ((list_all is_ascii_digit (b ∷ bs) && nat_le (length (b ∷ bs)) 5) && (nat_le (digits_value 10 (b ∷ bs)) 65535 && is_text (b ∷ bs) (decimal (digits_value 10 (b ∷ bs))))) ≡ t
        → cond t (Some (digits_value 10 (b ∷ bs))) None ≡ Some n → (b ∷ bs ≡ decimal n) × (n < 65536)
    go false is e = cc
    go true is e =
        let t = both (list_all is_ascii_digit (b ∷ bs) && nat_le (length (b ∷ bs)) 5) (nat_le (digits_value 10 (b ∷ bs)) 65535 && is_text (b ∷ bs) (decimal (digits_value 10 (b ∷ bs)))) is in
        let u = both (nat_le (digits_value 10 (b ∷ bs)) 65535) (is_text (b ∷ bs) (decimal (digits_value 10 (b ∷ bs)))) t.1 in
        let value : digits_value 10 (b ∷ bs) ≡ n = cc in
        (same_text (b ∷ bs) (decimal (digits_value 10 (b ∷ bs))) (sym u.1) ∙ ap decimal value, omega (arith, true_le (digits_value 10 (b ∷ bs)) 65535 u.0, value))

number_from : (ds : List ℕ) (n : ℕ) → ds ≡ decimal n → IsNumeral 10 ds → digits_value 10 ds ≡ n → length ds ≤ 5 → n < 65536 → number_of ds ≡ Some n
number_from [] n is numeral value short small = absurd (omega (arith, numeral.0))
number_from (b ∷ bs) n is numeral value short small =
    let same : is_text (b ∷ bs) (decimal (digits_value 10 (b ∷ bs))) ≡ true = ap (λ m. is_text (b ∷ bs) (decimal m)) value ∙ ap (λ xs. is_text (b ∷ bs) xs) (sym is) ∙ same_bytes (b ∷ bs) in
    rw (digits_all (b ∷ bs) numeral.1, le_true (length (b ∷ bs)) 5 short, le_true (digits_value 10 (b ∷ bs)) 65535 (omega (arith, value, small)), same) (ap Some value)

pub number_read : (n : ℕ) → n < 65536 → number_of (decimal n) ≡ Some n
number_read n small =
    let wide : n < 2 ^ 64 = omega arith in
    let s = decimal_is_IsNumeral n wide in
    number_from (decimal n) n refl s.0 s.1 (length-decimal-le 5 n (omega arith) (omega arith) wide) small

-- no number is written with a zero before other digits
no_zero : (n b : ℕ) (bs : List ℕ) → n < 2 ^ 64 → decimal n ≡ 48 ∷ b ∷ bs → ⊥
no_zero zero b bs wide h = cc (decimal_digit 0 (omega arith))
no_zero (suc n) b bs wide h = omega (arith, first_decimal (suc n) (omega arith) wide, ap (λ xs. get_or xs 0 0) h)

pub number_zero : (b : ℕ) (bs : List ℕ) → number_of (48 ∷ b ∷ bs) ≡ None
number_zero b bs = go (number_of (48 ∷ b ∷ bs)) refl
  where
    go : (o : Option ℕ) → number_of (48 ∷ b ∷ bs) ≡ o → o ≡ None
    go None is = refl
    go (Some n) is = let s = number_is (48 ∷ b ∷ bs) n is in absurd (no_zero n b bs (omega (arith, s.1)) (sym s.0))

-- the reader: a zero before other digits
pub zero_first : (text : List ℕ) → 2 ≤ length text → get_or text 0 0 ≡ 48 → None ≡ number_of text
zero_first [] long first = absurd (omega arith)
zero_first (a ∷ []) long first = absurd (omega arith)
zero_first (a ∷ b ∷ bs) long first = sym (ap (λ c. number_of (c ∷ b ∷ bs)) first ∙ number_zero b bs)

-- without a zero in front it is the number of a port
pub number_plain : (text : List ℕ) → (2 ≤ length text → get_or text 0 0 ≡ 48 → ⊥) → number_of text ≡ read_port text
number_plain [] h = refl
number_plain (b ∷ bs) h = go (list_all is_ascii_digit (b ∷ bs)) (nat_le (length (b ∷ bs)) 5) (nat_le (digits_value 10 (b ∷ bs)) 65535) refl refl refl
  where
    one_digit : b ≡ 48 → length (b ∷ bs) ≡ 1
    one_digit first = only bs (λ long. h long first)
      where
        only : (cs : List ℕ) → (2 ≤ length (b ∷ cs) → ⊥) → length (b ∷ cs) ≡ 1
        only [] none = refl
        only (c ∷ cs) none = absurd (none (omega arith))

    go : (s t u : Bool) → list_all is_ascii_digit (b ∷ bs) ≡ s → nat_le (length (b ∷ bs)) 5 ≡ t → nat_le (digits_value 10 (b ∷ bs)) 65535 ≡ u
        → cond ((s && t) && (u && is_text (b ∷ bs) (decimal (digits_value 10 (b ∷ bs))))) (Some (digits_value 10 (b ∷ bs))) None ≡ cond (s && (t && u)) (Some (digits_value 10 (b ∷ bs))) None
    go false t u p q r = refl
    go true false u p q r = refl
    go true true false p q r = refl
    go true true true p q r =
        let below : digits_value 10 (b ∷ bs) < 2 ^ 64 = omega (arith, true_le (digits_value 10 (b ∷ bs)) 65535 r) in
        let back : decimal (digits_value 10 (b ∷ bs)) ≡ b ∷ bs = decimal-digits_value numerals (b ∷ bs) (all_digits (b ∷ bs) p) (omega arith) one_digit below in
        rw (ap (λ xs. is_text (b ∷ bs) xs) back ∙ same_bytes (b ∷ bs)) refl
