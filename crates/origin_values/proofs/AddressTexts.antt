-- Addresses that were read are valid, and the text of a valid address spells it.
use Rattle.std.proofs.Common.{◌≡◌, ℕ, zero, suc, ◌+◌, ◌-◌, ◌*◌, ◌/◌, ◌%◌, ◌^◌, ◌<◌, ◌≤◌, Bool, true, false, List, [], ◌∷◌, ◌++◌, length, get_or, replicate, All, Option, Some, None, IfSome, refl, ap, sym, ◌∙◌, subst, arith, inl, inr, length-append}
use Rattle.std.specs.List.{AllByRecursion}
use Rattle.std.proofs.lemmas.List.{length-replicate}
use Rattle.std.proofs.lemmas.List.Elements.{All-from_recursion, recursion_from_All, All-append, All-replicate, All-nil, All-cons}
use Rattle.std.proofs.lemmas.Int.Digits.{digits_value-lt}
use Rattle.std.specs.Net.Addr.{octets_of, segments_of}
use Rattle.std.specs.Net.Text.{ipv4_text}
use Rattle.std.specs.Net.Grammar.{IsDotted, IsColonHex, IsGroupsAfter, IsGroup}
use Rattle.std.proofs.NetLemmas.Texts.{IsDotted-ipv4_text, IsColonHex-hex_groups_text, AllSegments}
use Rattle.origin_values.specs.HostGrammar.{SpellsV4, SpellsV6, SpellsAddr}
use Rattle.origin_values.specs.HostReading.{read_addr}
use Rattle.origin_values.specs.Valid.{AreBytes, IsAddr}
use Rattle.origin_values.specs.Written.{addr_text, v6_text}
use Rattle.origin_values.specs.declared.address.Addr.{Addr}
use Rattle.origin_values.specs.declared.address.Addr.TheVariants as address
use Rattle.origin_values.proofs.Addresses.{read_addr_complete, read_addr_sound}

-- what is below a bound at each place is so past the end, where 0 is read
pub at_each : (n : ℕ) (xs : List ℕ) → 0 < n → AllByRecursion (λ b. b < n) xs → (k : ℕ) → get_or xs k 0 < n
at_each n [] some h k = some
at_each n (x ∷ xs) some h k =
    let later = at_each n xs some h.1 in
    elim k as (λ j. get_or (x ∷ xs) j 0 < n) [ zero ↦ h.0 | suc j ↦ later j ]

pub v4_written : (bytes : List ℕ) → AreBytes 4 bytes → SpellsV4 (ipv4_text bytes) bytes
v4_written bytes h = IsDotted-ipv4_text bytes h.0 (at_each (2 ^ 8) bytes (omega arith) (recursion_from_All _ bytes h.1))

-- the bytes come back from their groups
pub groups_of : (n : ℕ) (bytes : List ℕ) → length bytes ≡ n + n → AllByRecursion (λ b. b < 2 ^ 8) bytes
    → (bytes ≡ octets_of (segments_of bytes)) × (length (segments_of bytes) ≡ n) × AllSegments (segments_of bytes)
groups_of zero [] h small = (refl, refl, λ k. omega arith)
groups_of zero (a ∷ bytes) h small = absurd (omega arith)
groups_of (suc n) [] h small = absurd (omega arith)
groups_of (suc n) (a ∷ []) h small = absurd (omega arith)
groups_of (suc n) (a ∷ b ∷ bytes) h small =
    let rest = groups_of n bytes (omega arith) small.1.1 in
    let later = rest.2 in
    let low = small.1.0 in
    let high = small.0 in
    let front : a ≡ (a * 256 + b) / 256 = omega arith in
    let back : b ≡ (a * 256 + b) % 256 = omega arith in
    (two front back rest.0, omega (arith, rest.1), λ k. elim k as (λ j. get_or ((a * 256 + b) ∷ segments_of bytes) j 0 < 2 ^ 16) [ zero ↦ omega arith | suc j ↦ later j ])
  where
    two : {x y : ℕ} {xs : List ℕ} → a ≡ x → b ≡ y → bytes ≡ xs → a ∷ b ∷ bytes ≡ x ∷ y ∷ xs
    two e f g = cc

pub v6_written : (bytes : List ℕ) → AreBytes 16 bytes → SpellsV6 (v6_text bytes) bytes
v6_written bytes h =
    let groups = groups_of 8 bytes h.0 (recursion_from_All _ bytes h.1) in
    record { groups = segments_of bytes; spelled = IsColonHex-hex_groups_text (segments_of bytes) groups.1 groups.2; value = groups.0 }

pub addr_written : (addr : Addr) → IsAddr addr → SpellsAddr (addr_text addr) addr
addr_written (address.V4 bytes) h = v4_written bytes h
addr_written (address.V6 bytes) h = v6_written bytes h

pub v4_valid : (text bytes : List ℕ) → SpellsV4 text bytes → AreBytes 4 bytes
v4_valid text bytes h =
    let all : AllByRecursion (λ b. b < 2 ^ 8) (h.a ∷ h.b ∷ h.c ∷ h.d ∷ []) = (omega (arith, h.fit.0), (omega (arith, h.fit.1), (omega (arith, h.fit.2), (omega (arith, h.fit.3), tt)))) in
    let four : AreBytes 4 (h.a ∷ h.b ∷ h.c ∷ h.d ∷ []) = (refl, All-from_recursion (λ b. b < 2 ^ 8) (h.a ∷ h.b ∷ h.c ∷ h.d ∷ []) all) in
    subst (AreBytes 4) (sym h.value) four

-- at most four hex digits write less than 2 ^ 16
short_pow : (n : ℕ) → n ≤ 4 → 16 ^ n ≤ 2 ^ 16
short_pow zero h = omega arith
short_pow (suc zero) h = omega arith
short_pow (suc (suc zero)) h = omega arith
short_pow (suc (suc (suc zero))) h = omega arith
short_pow (suc (suc (suc (suc zero)))) h = omega arith
short_pow (suc (suc (suc (suc (suc n))))) h = absurd (omega arith)

group_small : (text : List ℕ) (s : ℕ) → IsGroup text s → s < 2 ^ 16
group_small text s h = omega (arith, digits_value-lt 16 text h.0.0.1, h.0.1, short_pow (length text) h.1)

abbrev Small : ℕ → Type 0
Small s = s < 2 ^ 16

-- the two groups that an IPv4 address writes
dotted_small : (text octets segments : List ℕ) → IsDotted text octets → segments ≡ segments_of octets → All Small segments
dotted_small text octets segments h is =
    let fits = h.fit in
    subst (All Small) (sym (is ∙ ap segments_of h.value))
    (All-from_recursion Small ((h.a * 256 + h.b) ∷ (h.c * 256 + h.d) ∷ []) (omega (arith, h.fit.0, h.fit.1), (omega (arith, h.fit.2, h.fit.3), tt)))

groups_small : (ipv4 : Bool) (segments lead text : List ℕ) → IsGroupsAfter ipv4 lead text segments → All Small segments
groups_small ipv4 [] lead text h = All-nil Small
groups_small ipv4 (s ∷ segments) lead text (inl h) = All-cons Small s segments (group_small h.0 s h.3) (groups_small ipv4 segments (58 ∷ []) h.1 h.4)
groups_small ipv4 (s ∷ segments) lead text (inr h) = dotted_small h.0 h.1 (s ∷ segments) h.4 h.5

eight_small : (text segments : List ℕ) → IsColonHex text segments → (length segments ≡ 8) × All Small segments
eight_small text segments (inl h) = (h.1, groups_small true segments [] text h.0)
eight_small text segments (inr h) =
    let middle = 8 - length h.head - length h.tail in
    let all : All Small (h.head ++ replicate middle 0 ++ h.tail) =
    All-append Small (h.head ++ replicate middle 0) h.tail
    (All-append Small h.head (replicate middle 0) (groups_small false h.head [] h.head_text h.head_groups) (All-replicate Small middle 0 (omega arith)))
    (groups_small true h.tail [] h.tail_text h.tail_groups) in
    (ap length h.value ∙ omega (arith, length-append (h.head ++ replicate middle 0) h.tail, length-append h.head (replicate middle 0), length-replicate {A = ℕ} middle 0, h.room), subst (All Small) (sym h.value) all)

octets_small : (segments : List ℕ) → AllByRecursion Small segments → (length (octets_of segments) ≡ length segments + length segments) × AllByRecursion (λ b. b < 2 ^ 8) (octets_of segments)
octets_small [] h = (refl, tt)
octets_small (s ∷ segments) h =
    let rest = octets_small segments h.1 in
    let small = h.0 in
    (omega (arith, rest.0), (omega arith, (omega arith, rest.1)))

pub v6_valid : (text bytes : List ℕ) → SpellsV6 text bytes → AreBytes 16 bytes
v6_valid text bytes h =
    let eight = eight_small text h.groups h.spelled in
    let octets = octets_small h.groups (recursion_from_All Small h.groups eight.1) in
    let sixteen : AreBytes 16 (octets_of h.groups) = (omega (arith, octets.0, eight.0), All-from_recursion (λ b. b < 2 ^ 8) (octets_of h.groups) octets.1) in
    subst (AreBytes 16) (sym h.value) sixteen

pub addr_valid : (text : List ℕ) (addr : Addr) → SpellsAddr text addr → IsAddr addr
addr_valid text (address.V4 bytes) h = v4_valid text bytes h
addr_valid text (address.V6 bytes) h = v6_valid text bytes h

some_same : (a b : Addr) → Some a ≡ Some b → a ≡ b
some_same a b e = cc

pub one_addr : (text : List ℕ) (a b : Addr) → SpellsAddr text a → SpellsAddr text b → a ≡ b
one_addr text a b h k = some_same a b (sym (read_addr_complete text a h) ∙ read_addr_complete text b k)

-- what the reading gives is valid
pub addr_says : (text : List ℕ) (r : Option Addr) → r ≡ read_addr text → IfSome r (λ addr. IsAddr addr)
addr_says text (Some addr) h = addr_valid text addr (read_addr_sound text addr (sym h))
addr_says text None h = tt
