-- No comma stands in an address.
use Rattle.std.proofs.Common.{◌≡◌, ℕ, ◌<◌, ◌≤◌, Bool, true, false, nat_eq, List, [], ◌∷◌, ◌++◌, decimal, refl, sym, ◌∙◌, subst, arith, inl, inr}
use Rattle.std.specs.Char.{digit_value}
use Rattle.std.specs.Str.Parse.{AllDigits}
use Rattle.std.specs.Net.Grammar.{IsDotted, IsColonHex, IsGroupsAfter}
use Rattle.std.proofs.lemmas.Fmt.{decimal_is_IsNumeral}
use Rattle.alt_base.proofs.Numbers.{true_eq}
use Rattle.origin_values.specs.HostGrammar.{SpellsV4, SpellsV6}
use Rattle.svcb_values.proofs.CommaItems.{NoComma}
use Rattle.alt_base.proofs.Digits.{dotted_assoc}

no_comma_append : (xs ys : List ℕ) → NoComma xs → NoComma ys → NoComma (xs ++ ys)
no_comma_append [] ys h k = k
no_comma_append (b ∷ xs) ys h k = (h.0, no_comma_append xs ys h.1 k)

-- a digit is no comma
digit_no_comma : (b : ℕ) → digit_value b < 16 → nat_eq b 44 ≡ false
digit_no_comma b digit = go (nat_eq b 44) refl
  where
    comma : digit_value 44 < 16 → ⊥
    comma h = omega arith

    go : (t : Bool) → nat_eq b 44 ≡ t → t ≡ false
    go false is = refl
    go true is = absurd (comma (subst (λ c. digit_value c < 16) (true_eq b 44 is) digit))

digits_no_comma : (radix : ℕ) (ds : List ℕ) → radix ≤ 16 → AllDigits radix ds → NoComma ds
digits_no_comma radix [] small h = tt
digits_no_comma radix (c ∷ ds) small h = (digit_no_comma c (omega (arith, h.0)), digits_no_comma radix ds small h.1)

number_no_comma : (n : ℕ) → n < 256 → NoComma (decimal n)
number_no_comma n small = digits_no_comma 10 (decimal n) (omega arith) (decimal_is_IsNumeral n (omega arith)).0.1

dot_then : (n : ℕ) (rest : List ℕ) → n < 256 → NoComma rest → NoComma (decimal n ++ 46 ∷ rest)
dot_then n rest small h = no_comma_append (decimal n) (46 ∷ rest) (number_no_comma n small) (refl, h)

dotted_no_comma : (text octets : List ℕ) → IsDotted text octets → NoComma text
dotted_no_comma text octets h =
    subst NoComma (sym (h.spelled ∙ dotted_assoc h.a h.b h.c h.d))
    (dot_then h.a _ h.fit.0 (dot_then h.b _ h.fit.1 (dot_then h.c _ h.fit.2 (number_no_comma h.d h.fit.3))))

groups_no_comma : (ipv4 : Bool) (segments lead text : List ℕ) → NoComma lead → IsGroupsAfter ipv4 lead text segments → NoComma text
groups_no_comma ipv4 [] lead text plain h = subst NoComma (sym h) tt
groups_no_comma ipv4 (s ∷ segments) lead text plain (inl h) =
    subst NoComma (sym h.2)
    (no_comma_append (lead ++ h.0) h.1 (no_comma_append lead h.0 plain (digits_no_comma 16 h.0 (omega arith) h.3.0.0.1)) (groups_no_comma ipv4 segments (58 ∷ []) h.1 (refl, tt) h.4))
groups_no_comma ipv4 (s ∷ segments) lead text plain (inr h) = subst NoComma (sym h.3) (no_comma_append lead h.0 plain (dotted_no_comma h.0 h.1 h.4))

hex_no_comma : (text segments : List ℕ) → IsColonHex text segments → NoComma text
hex_no_comma text segments (inl h) = groups_no_comma true segments [] text tt h.0
hex_no_comma text segments (inr h) =
    subst NoComma (sym h.spelled)
    (no_comma_append (h.head_text ++ 58 ∷ 58 ∷ []) h.tail_text
    (no_comma_append h.head_text (58 ∷ 58 ∷ []) (groups_no_comma false h.head [] h.head_text tt h.head_groups) (refl, (refl, tt)))
    (groups_no_comma true h.tail [] h.tail_text tt h.tail_groups))

pub v4_no_comma : (text address : List ℕ) → SpellsV4 text address → NoComma text
v4_no_comma text address h = dotted_no_comma text address h

pub v6_no_comma : (text address : List ℕ) → SpellsV6 text address → NoComma text
v6_no_comma text address h = hex_no_comma text h.groups h.spelled
