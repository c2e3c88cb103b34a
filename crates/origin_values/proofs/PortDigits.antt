-- The reading of a port's digits against their grammar.
use Rattle.std.proofs.Common.{◌≡◌, ℕ, Bool, true, false, cond, ◌&&◌, nat_le, List, [], ◌∷◌, length, Option, Some, None, IfSome, IfNone, refl, ap, sym, ◌∙◌, arith}
use Rattle.std.specs.List.{list_all}
use Rattle.std.specs.Char.{is_ascii_digit}
use Rattle.std.specs.Str.Parse.{digits_value}
use Rattle.alt_base.proofs.Conjunctions.{both}
use Rattle.alt_base.proofs.Digits.{all_digits, digits_all}
use Rattle.alt_base.proofs.Numbers.{true_le, le_true}
use Rattle.origin_values.specs.PortGrammar.{SpellsPortDigits}
use Rattle.origin_values.specs.PortReading.{read_port_digits}

pub port_digits_spelled : (text : List ℕ) (port : ℕ) → read_port_digits text ≡ Some port → SpellsPortDigits text port
port_digits_spelled [] port h = cc
port_digits_spelled (b ∷ bs) port h = go (list_all is_ascii_digit (b ∷ bs) && (nat_le (length (b ∷ bs)) 5 && nat_le (digits_value 10 (b ∷ bs)) 65535)) refl h
  where
    go : (t : Bool) → (list_all is_ascii_digit (b ∷ bs) && (nat_le (length (b ∷ bs)) 5 && nat_le (digits_value 10 (b ∷ bs)) 65535)) ≡ t
        → cond t (Some (digits_value 10 (b ∷ bs))) None ≡ Some port → SpellsPortDigits (b ∷ bs) port
    go false is e = cc
    go true is e =
        let t = both (list_all is_ascii_digit (b ∷ bs)) (nat_le (length (b ∷ bs)) 5 && nat_le (digits_value 10 (b ∷ bs)) 65535) is in
        let u = both (nat_le (length (b ∷ bs)) 5) (nat_le (digits_value 10 (b ∷ bs)) 65535) t.1 in
        let value : digits_value 10 (b ∷ bs) ≡ port = cc in
        record {
          numeral = (omega arith, all_digits (b ∷ bs) t.0);
          short = true_le _ _ u.0;
          value = value;
          most = omega (arith, true_le (digits_value 10 (b ∷ bs)) 65535 u.1, value);
        }

pub port_digits_read : (text : List ℕ) (port : ℕ) → SpellsPortDigits text port → read_port_digits text ≡ Some port
port_digits_read [] port s = absurd (omega (arith, s.numeral.0))
port_digits_read (b ∷ bs) port s =
    rw (digits_all (b ∷ bs) s.numeral.1, le_true (length (b ∷ bs)) 5 s.short, le_true (digits_value 10 (b ∷ bs)) 65535 (omega (arith, s.value, s.most))) (ap Some s.value)

-- what the reading gives is spelled, and where it gives nothing no port is
pub port_digits_say : (text : List ℕ) (r : Option ℕ) → r ≡ read_port_digits text → IfSome r (λ port. SpellsPortDigits text port) × IfNone r ((port : ℕ) → SpellsPortDigits text port → ⊥)
port_digits_say text (Some port) h = (port_digits_spelled text port (sym h), tt)
port_digits_say text None h = (tt, λ port spells. clash port (h ∙ port_digits_read text port spells))
  where
    clash : (port : ℕ) → None ≡ Some port → ⊥
    clash port e = cc
