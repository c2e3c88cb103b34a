-- Numbers and ports against their grammar.
use Rattle.std.proofs.Common.{◌≡◌, ℕ, ◌<◌, ◌≤◌, Bool, true, false, cond, not, nat_eq, nat_le, nat_lt, List, [], ◌∷◌, length, Option, None, Some, refl, ap, sym, ◌∙◌, subst, arith}
use Rattle.std.specs.List.{list_all}
use Rattle.std.specs.Option.{option_and_then}
use Rattle.std.specs.Char.{is_ascii_digit, digit_value}
use Rattle.std.specs.Str.Parse.{IsNumeral, digits_value}
use Rattle.std.proofs.lemmas.Bool.{and_from, not-true}
use Rattle.alt_base.proofs.Numbers.{eq_false, eq_true, false_eq, le_true, lt_true, true_le, true_lt, true_eq}
use Rattle.alt_base.proofs.Digits.{digits_all}
use Rattle.event_lines.specs.Fields.{is_number, number_within, number_of, unless_zero, port_of, final_status, status_of}
use Rattle.event_lines.specs.Limits.{most_port, most_status}
use Rattle.event_lines.specs.LineGrammar.{SpellsPort, SpellsStatus}
use Rattle.event_lines.specs.WordGrammar.{NoLeadingZero, SpellsNumber}
use Rattle.alt_base.proofs.Conjunctions.{both}
use Rattle.alt_base.proofs.Digits.{all_digits, digit_code, value_of_digit}

digit_below : (b : ℕ) → is_ascii_digit b ≡ true → digit_value b < 10
digit_below b h = let code = digit_code b h in omega (arith, value_of_digit b h, code.0, code.1)

record HasForm (text : List ℕ) : Type 0 where
  numeral : IsNumeral 10 text
  no_zero : NoLeadingZero text

form_from_test : (text : List ℕ) → is_number text ≡ true → HasForm text
form_from_test [] h = cc
form_from_test (b ∷ []) h = record { numeral = (omega arith, (digit_below b h, tt)); no_zero = tt }
form_from_test (b ∷ c ∷ bs) h =
    let t = both (not (nat_eq b 48)) (list_all is_ascii_digit (b ∷ c ∷ bs)) h in
    record { numeral = (omega arith, all_digits (b ∷ c ∷ bs) t.1); no_zero = false_eq b 48 (not-true (nat_eq b 48) t.0) }

test_from_form : (text : List ℕ) → IsNumeral 10 text → NoLeadingZero text → is_number text ≡ true
test_from_form [] h k = absurd (omega (arith, h.0))
test_from_form (b ∷ []) h k = (both (is_ascii_digit b) true (digits_all (b ∷ []) h.1)).0
test_from_form (b ∷ c ∷ bs) h k = and_from _ _ (ap not (eq_false b 48 k)) (digits_all (b ∷ c ∷ bs) h.1)

within_sound : (most v n : ℕ) → number_within most v ≡ Some n → (n ≡ v) × (v ≤ most)
within_sound most v n h = go (nat_le v most) refl h
  where
    go : (t : Bool) → nat_le v most ≡ t → cond t (Some v) None ≡ Some n → (n ≡ v) × (v ≤ most)
    go true is e = (cc, true_le v most is)
    go false is e = cc

pub number_sound : (most : ℕ) (text : List ℕ) (n : ℕ) → number_of most text ≡ Some n → SpellsNumber most text n
number_sound most text n h = go (is_number text) refl h
  where
    go : (t : Bool) → is_number text ≡ t → cond t (number_within most (digits_value 10 text)) None ≡ Some n → SpellsNumber most text n
    go true is e =
        let form = form_from_test text is in
        let value = within_sound most (digits_value 10 text) n e in
        record { numeral = form.numeral; no_zero = form.no_zero; value = value.0; within = omega (arith, value.0, value.1) }
    go false is e = cc

pub number_complete : (most : ℕ) (text : List ℕ) (n : ℕ) → SpellsNumber most text n → number_of most text ≡ Some n
number_complete most text n s =
    ap (λ t. cond t (number_within most (digits_value 10 text)) None) (test_from_form text s.numeral s.no_zero)
    ∙ ap (number_within most) (sym s.value)
    ∙ ap (λ t. cond t (Some n) None) (le_true n most s.within)

pub port_sound : (text : List ℕ) (port : ℕ) → port_of text ≡ Some port → SpellsPort text port
port_sound text port h = go (number_of most_port text) refl h
  where
    positive : (n : ℕ) → unless_zero n ≡ Some port → (n ≡ port) × (0 < n)
    positive n e = at (nat_lt 0 n) refl e
      where
        at : (t : Bool) → nat_lt 0 n ≡ t → cond t (Some n) None ≡ Some port → (n ≡ port) × (0 < n)
        at true is f = (cc, true_lt 0 n is)
        at false is f = cc

    go : (o : Option ℕ) → number_of most_port text ≡ o → option_and_then unless_zero o ≡ Some port → SpellsPort text port
    go None is e = cc
    go (Some n) is e =
        let p = positive n e in
        record { number = subst (SpellsNumber most_port text) p.0 (number_sound most_port text n is); some = omega (arith, p.0, p.1) }

pub port_complete : (text : List ℕ) (port : ℕ) → SpellsPort text port → port_of text ≡ Some port
port_complete text port s =
    ap (option_and_then unless_zero) (number_complete most_port text port s.number)
    ∙ ap (λ t. cond t (Some port) None) (lt_true 0 port (omega (arith, s.some)))

pub status_sound : (text : List ℕ) (status : ℕ) → status_of text ≡ Some status → SpellsStatus text status
status_sound text status h = go (nat_eq (length text) 3) refl h
  where
    checked : (n : ℕ) → final_status n ≡ Some status → (n ≡ status) × (200 ≤ n)
    checked n e = at (nat_le 200 n) refl e
      where
        at : (a : Bool) → nat_le 200 n ≡ a → cond a (Some n) None ≡ Some status → (n ≡ status) × (200 ≤ n)
        at true is f = (cc, true_le 200 n is)
        at false is f = cc

    number : (o : Option ℕ) → number_of most_status text ≡ o → length text ≡ 3 → option_and_then final_status o ≡ Some status → SpellsStatus text status
    number None is three e = cc
    number (Some n) is three e =
        let p = checked n e in
        record { three = three; number = subst (SpellsNumber most_status text) p.0 (number_sound most_status text n is); final = omega (arith, p.0, p.1) }

    go : (t : Bool) → nat_eq (length text) 3 ≡ t → cond t (option_and_then final_status (number_of most_status text)) None ≡ Some status → SpellsStatus text status
    go true is e = number (number_of most_status text) refl (true_eq (length text) 3 is) e
    go false is e = cc

pub status_complete : (text : List ℕ) (status : ℕ) → SpellsStatus text status → status_of text ≡ Some status
status_complete text status s =
    ap (λ t. cond t (option_and_then final_status (number_of most_status text)) None) (eq_true (length text) 3 s.three)
    ∙ ap (option_and_then final_status) (number_complete most_status text status s.number)
    ∙ ap (λ t. cond t (Some status) None) (le_true 200 status s.final)
