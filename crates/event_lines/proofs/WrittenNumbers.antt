-- The decimal text of a number spells it, and has no space.
use Rattle.std.proofs.Common.{ℕ, zero, suc, ◌<◌, ◌≤◌, ◌^◌, List, [], ◌∷◌, get_or, decimal, sym, subst, arith}
use Rattle.std.proofs.lemmas.Fmt.{decimal_is_IsNumeral, decimal_digit, first_decimal}
use Rattle.event_lines.specs.WordGrammar.{NoLeadingZero, SpellsNumber, NoSpace}
use Rattle.event_lines.proofs.InnerBytes.{number_inner}
use Rattle.event_lines.proofs.Spaces.{no_space_from}

leads : (text : List ℕ) → 48 < get_or text 0 0 → NoLeadingZero text
leads [] h = tt
leads (b ∷ []) h = tt
leads (b ∷ c ∷ bs) h = λ e. omega arith

decimal_leads : (n : ℕ) → n < 2 ^ 64 → NoLeadingZero (decimal n)
decimal_leads zero small = subst NoLeadingZero (sym (decimal_digit 0 (omega arith))) tt
decimal_leads (suc n) small = leads (decimal (suc n)) (first_decimal (suc n) (omega arith) small)

pub number_written : (most n : ℕ) → most < 2 ^ 64 → n ≤ most → SpellsNumber most (decimal n) n
number_written most n small within =
    let digits = decimal_is_IsNumeral n (omega arith) in
    record { numeral = digits.0; no_zero = decimal_leads n (omega arith); value = sym digits.1; within = within }

pub number_apart : (most n : ℕ) → most < 2 ^ 64 → n ≤ most → NoSpace (decimal n)
number_apart most n small within = no_space_from (decimal n) (number_inner n (omega arith))
