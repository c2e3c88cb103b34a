-- No asterisk and no comma stands in a host's name or in an address.
use Rattle.std.proofs.Common.{◌≡◌, ℕ, ◌+◌, ◌<◌, ◌≤◌, Bool, true, false, cond, not, ◌&&◌, ◌||◌, nat_eq, nat_lt, List, [], ◌∷◌, ◌++◌, decimal, refl, ap, sym, ◌∙◌, subst, arith, inl, inr}
use Rattle.std.specs.List.{list_all}
use Rattle.std.specs.Char.{is_ascii_digit, digit_value}
use Rattle.std.specs.Str.Parse.{AllDigits}
use Rattle.std.specs.Net.Grammar.{IsDotted, IsColonHex, IsGroupsAfter}
use Rattle.std.proofs.lemmas.Fmt.{decimal_is_IsNumeral}
use Rattle.std.proofs.lemmas.List.Folds.{list_all-append}
use Rattle.alt_base.specs.Classes.{in_ranges, host_name_class}
use Rattle.origin_values.specs.HostGrammar.{SpellsName, SpellsAddr}
use Rattle.origin_values.specs.HostReading.{are_labels}
use Rattle.origin_values.specs.declared.address.Addr.{Addr}
use Rattle.origin_values.specs.declared.address.Addr.TheVariants as address
use Rattle.origin_values.proofs.Names.{name_labels}
use Rattle.coalescing.proofs.Apart.{Without, false_true}
use Rattle.alt_base.proofs.Conjunctions.{both}
use Rattle.alt_base.proofs.Numbers.{true_eq, lt_true}
use Rattle.std.proofs.lemmas.Bool.{and_from, and_right}
use Rattle.alt_base.proofs.Digits.{dotted_assoc}

-- a byte other than `*` and `,`
abbrev pub is_plain : ℕ → Bool
is_plain b = not (nat_eq b 42 || nat_eq b 44)

abbrev pub IsPlain : List ℕ → Type 0
IsPlain text = list_all is_plain text ≡ true

-- what a test that refuses both passes is neither
plain_from : (test : ℕ → Bool) → test 42 ≡ false → test 44 ≡ false → (b : ℕ) → test b ≡ true → is_plain b ≡ true
plain_from test no_asterisk no_comma b h = go (nat_eq b 42) (nat_eq b 44) refl refl
  where
    go : (s t : Bool) → nat_eq b 42 ≡ s → nat_eq b 44 ≡ t → not (s || t) ≡ true
    go false false is_asterisk is_comma = refl
    go false true is_asterisk is_comma = absurd (false_true (sym no_comma ∙ ap test (sym (true_eq b 44 is_comma)) ∙ h))
    go true t is_asterisk is_comma = absurd (false_true (sym no_asterisk ∙ ap test (sym (true_eq b 42 is_asterisk)) ∙ h))

pub plain_append : (xs ys : List ℕ) → IsPlain xs → IsPlain ys → IsPlain (xs ++ ys)
plain_append xs ys h k = list_all-append is_plain xs ys ∙ and_from _ _ h k

-- a plain text holds no comma
pub plain_apart : (text : List ℕ) → IsPlain text → Without 44 text
plain_apart text h front back e =
    false_true (sym (ap (list_all is_plain) e ∙ list_all-append is_plain front (44 ∷ back) ∙ and_right _ _ refl) ∙ h)

labels_plain : (text : List ℕ) (count : ℕ) (digits : Bool) → are_labels count digits text ≡ true → IsPlain text
labels_plain [] count digits h = refl
labels_plain (b ∷ bs) count digits h = go (λ n d. labels_plain bs n d) (nat_eq b 46) refl h
  where
    go : ((n : ℕ) (d : Bool) → are_labels n d bs ≡ true → IsPlain bs) → (dot : Bool) → nat_eq b 46 ≡ dot
        → cond dot (nat_lt 0 count && are_labels 0 true bs) (nat_lt count 63 && (in_ranges host_name_class b && are_labels (count + 1) (digits && is_ascii_digit b) bs)) ≡ true
        → IsPlain (b ∷ bs)
    go later true is e =
        let t = both (nat_lt 0 count) (are_labels 0 true bs) e in
        and_from _ _ (plain_from (λ c. nat_eq c 46) refl refl b is) (later 0 true t.1)
    go later false is e =
        let t = both (nat_lt count 63) (in_ranges host_name_class b && are_labels (count + 1) (digits && is_ascii_digit b) bs) e in
        let u = both (in_ranges host_name_class b) (are_labels (count + 1) (digits && is_ascii_digit b) bs) t.1 in
        and_from _ _ (plain_from (in_ranges host_name_class) refl refl b u.0) (later (count + 1) (digits && is_ascii_digit b) u.1)

pub name_plain : (text name : List ℕ) → SpellsName text name → IsPlain text
name_plain text name h = labels_plain text 0 true (name_labels text name h)

digits_plain : (radix : ℕ) (ds : List ℕ) → radix ≤ 16 → AllDigits radix ds → IsPlain ds
digits_plain radix [] small h = refl
digits_plain radix (c ∷ ds) small h =
    let digit : digit_value c < 16 = omega (arith, h.0) in
    and_from _ _ (plain_from (λ b. nat_lt (digit_value b) 16) refl refl c (lt_true (digit_value c) 16 digit)) (digits_plain radix ds small h.1)

number_plain : (n : ℕ) → n < 256 → IsPlain (decimal n)
number_plain n small = digits_plain 10 (decimal n) (omega arith) (decimal_is_IsNumeral n (omega arith)).0.1

dot_then : (n : ℕ) (rest : List ℕ) → n < 256 → IsPlain rest → IsPlain (decimal n ++ 46 ∷ rest)
dot_then n rest small h = plain_append (decimal n) (46 ∷ rest) (number_plain n small) h

dotted_plain : (text octets : List ℕ) → IsDotted text octets → IsPlain text
dotted_plain text octets h =
    subst IsPlain (sym (h.spelled ∙ dotted_assoc h.a h.b h.c h.d))
    (dot_then h.a _ h.fit.0 (dot_then h.b _ h.fit.1 (dot_then h.c _ h.fit.2 (number_plain h.d h.fit.3))))

groups_plain : (ipv4 : Bool) (segments lead text : List ℕ) → IsPlain lead → IsGroupsAfter ipv4 lead text segments → IsPlain text
groups_plain ipv4 [] lead text plain h = subst IsPlain (sym h) refl
groups_plain ipv4 (s ∷ segments) lead text plain (inl h) =
    subst IsPlain (sym h.2)
    (plain_append (lead ++ h.0) h.1 (plain_append lead h.0 plain (digits_plain 16 h.0 (omega arith) h.3.0.0.1)) (groups_plain ipv4 segments (58 ∷ []) h.1 refl h.4))
groups_plain ipv4 (s ∷ segments) lead text plain (inr h) = subst IsPlain (sym h.3) (plain_append lead h.0 plain (dotted_plain h.0 h.1 h.4))

hex_plain : (text segments : List ℕ) → IsColonHex text segments → IsPlain text
hex_plain text segments (inl h) = groups_plain true segments [] text refl h.0
hex_plain text segments (inr h) =
    subst IsPlain (sym h.spelled)
    (plain_append (h.head_text ++ 58 ∷ 58 ∷ []) h.tail_text
    (plain_append h.head_text (58 ∷ 58 ∷ []) (groups_plain false h.head [] h.head_text refl h.head_groups) refl)
    (groups_plain true h.tail [] h.tail_text refl h.tail_groups))

pub addr_plain : (text : List ℕ) (addr : Addr) → SpellsAddr text addr → IsPlain text
addr_plain text (address.V4 bytes) h = dotted_plain text bytes h
addr_plain text (address.V6 bytes) h = hex_plain text h.groups h.spelled
