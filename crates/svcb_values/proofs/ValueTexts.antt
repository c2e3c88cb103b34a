-- The texts of keys, numbers and addresses stand as they are in a value without quotes.
use Rattle.std.proofs.Common.{◌≡◌, ℕ, ◌^◌, ◌<◌, ◌≤◌, Bool, true, false, List, [], ◌∷◌, ◌++◌, map, codes, decimal, refl, ap, sym, subst, arith, inl, inr}
use Rattle.std.proofs.lemmas.Bool.Decides.{nat_tests}
use Rattle.std.proofs.lemmas.Fmt.{decimal_is_IsNumeral}
use Rattle.std.proofs.lemmas.List.Elements.{All-from_recursion}
use Rattle.std.specs.List.{list_all, join_with_byte, AllByRecursion}
use Rattle.std.specs.Char.{digit_value}
use Rattle.std.specs.Str.Parse.{AllDigits}
use Rattle.std.specs.Net.Grammar.{IsDotted, IsGroupsAfter, IsColonHex}
use Rattle.std.specs.Net.Text.{ipv4_text}
use Rattle.field_text.specs.Runs.{AllIn}
use Rattle.dns_names.specs.Names.{AreBytes}
use Rattle.dns_names.specs.TextParts.{Raw, part_byte}
use Rattle.origin_values.specs.HostGrammar.{SpellsV4, SpellsV6}
use Rattle.origin_values.specs.Valid as origins
use Rattle.origin_values.specs.Written.{v6_text}
use Rattle.origin_values.proofs.AddressTexts.{v4_written, v6_written}
use Rattle.svcb_wire.specs.Forms.{IsAddress}
use Rattle.svcb_values.specs.declared.token.Style.TheVariants.{Contiguous}
use Rattle.svcb_values.specs.KeyNames.{key_name, is_key_byte}
use Rattle.svcb_values.specs.StringGrammar.{is_raw, AreParts, string_text, is_raw_part}
use Rattle.svcb_values.proofs.KeyLaws.{name_bytes}

-- bytes that stand as they are
abbrev pub AreContiguous : List ℕ → Type 0
AreContiguous x = AllIn (is_raw Contiguous) x

join : (x y : List ℕ) → AreContiguous x → AreContiguous y → AreContiguous (x ++ y)
join [] y h k = k
join (b ∷ bs) y h k = (h.0, join bs y h.1 k)

pub raw_parts : (x : List ℕ) → AreContiguous x → AreParts Contiguous (map Raw x)
raw_parts [] h = tt
raw_parts (b ∷ bs) h = (h.0, raw_parts bs h.1)

pub raw_text : (x : List ℕ) → string_text Contiguous (map Raw x) ≡ x
raw_text [] = refl
raw_text (b ∷ bs) = ap (λ xs. b ∷ xs) (raw_text bs)

pub raw_bytes : (x : List ℕ) → map part_byte (map Raw x) ≡ x
raw_bytes [] = refl
raw_bytes (b ∷ bs) = ap (λ xs. b ∷ xs) (raw_bytes bs)

pub raw_plain : (x : List ℕ) → list_all is_raw_part (map Raw x) ≡ true
raw_plain [] = refl
raw_plain (b ∷ bs) = raw_plain bs

-- items, each of such bytes, joined by commas
abbrev pub AreAllContiguous : List (List ℕ) → Type 0
AreAllContiguous [] = Unit {0}
AreAllContiguous (x ∷ xs) = AreContiguous x × AreAllContiguous xs

pub joined_contiguous : (items : List (List ℕ)) → AreAllContiguous items → AreContiguous (join_with_byte 44 items)
joined_contiguous [] h = tt
joined_contiguous (x ∷ []) h = h.0
joined_contiguous (x ∷ y ∷ items) h =
    let rest : AreContiguous (44 ∷ join_with_byte 44 (y ∷ items)) = (refl, joined_contiguous (y ∷ items) h.1) in
    join x (44 ∷ join_with_byte 44 (y ∷ items)) h.0 rest

-- names of keys
key_byte_raw : (b : ℕ) → is_key_byte b ≡ true → is_raw Contiguous b ≡ true
key_byte_raw b h = grind (arith, nat_tests)

key_bytes_raw : (x : List ℕ) → AllIn is_key_byte x → AreContiguous x
key_bytes_raw [] h = tt
key_bytes_raw (b ∷ bs) h = (key_byte_raw b h.0, key_bytes_raw bs h.1)

pub name_contiguous : (key : ℕ) → key < 65536 → AreContiguous (key_name key)
name_contiguous key h = key_bytes_raw (key_name key) (name_bytes key h)

-- digits
digit_raw : (b : ℕ) → digit_value b < 16 → is_raw Contiguous b ≡ true
digit_raw b h = grind (arith, nat_tests)

digits_contiguous : (radix : ℕ) (x : List ℕ) → radix ≤ 16 → AllDigits radix x → AreContiguous x
digits_contiguous radix [] few h = tt
digits_contiguous radix (b ∷ bs) few h = (digit_raw b (omega (arith, h.0)), digits_contiguous radix bs few h.1)

pub decimal_contiguous : (n : ℕ) → n < 2 ^ 64 → AreContiguous (decimal n)
decimal_contiguous n small = digits_contiguous 10 (decimal n) (omega arith) (decimal_is_IsNumeral n small).0.1

-- addresses
dotted_contiguous : (text octets : List ℕ) → IsDotted text octets → AreContiguous text
dotted_contiguous text octets s =
    let dot : AreContiguous (codes ".") = (refl, tt) in
    let x1 = decimal s.a ++ codes "." in
    let x2 = x1 ++ decimal s.b in
    let x3 = x2 ++ codes "." in
    let x4 = x3 ++ decimal s.c in
    let x5 = x4 ++ codes "." in
    let q1 = join (decimal s.a) (codes ".") (decimal_contiguous s.a (omega (arith, s.fit.0))) dot in
    let q2 = join x1 (decimal s.b) q1 (decimal_contiguous s.b (omega (arith, s.fit.1))) in
    let q3 = join x2 (codes ".") q2 dot in
    let q4 = join x3 (decimal s.c) q3 (decimal_contiguous s.c (omega (arith, s.fit.2))) in
    let q5 = join x4 (codes ".") q4 dot in
    subst AreContiguous (sym s.spelled) (join x5 (decimal s.d) q5 (decimal_contiguous s.d (omega (arith, s.fit.3))))

groups_contiguous : (ipv4 : Bool) (lead text segments : List ℕ) → AreContiguous lead → IsGroupsAfter ipv4 lead text segments → AreContiguous text
groups_contiguous ipv4 lead text [] h s = subst AreContiguous (sym s) tt
groups_contiguous ipv4 lead text (segment ∷ segments) h (inl s) =
    let group = digits_contiguous 16 s.0 (omega arith) s.3.0.0.1 in
    subst AreContiguous (sym s.2) (join (lead ++ s.0) s.1 (join lead s.0 h group) (groups_contiguous ipv4 (codes ":") s.1 segments (refl, tt) s.4))
groups_contiguous ipv4 lead text (segment ∷ segments) h (inr s) =
    subst AreContiguous (sym s.3) (join lead s.0 h (dotted_contiguous s.0 s.1 s.4))

hex_contiguous : (text segments : List ℕ) → IsColonHex text segments → AreContiguous text
hex_contiguous text segments (inl s) = groups_contiguous true [] text segments tt s.0
hex_contiguous text segments (inr s) =
    let two : AreContiguous (codes "::") = (refl, (refl, tt)) in
    let head = groups_contiguous false [] s.head_text s.head tt s.head_groups in
    let tail = groups_contiguous true [] s.tail_text s.tail tt s.tail_groups in
    subst AreContiguous (sym s.spelled) (join (s.head_text ++ codes "::") s.tail_text (join s.head_text (codes "::") head two) tail)

all_bytes : (bytes : List ℕ) → AreBytes bytes → AllByRecursion (λ b. b < 2 ^ 8) bytes
all_bytes [] h = tt
all_bytes (b ∷ bs) h = (h.0, all_bytes bs h.1)

of_address : (size : ℕ) (address : List ℕ) → IsAddress size address → origins.AreBytes size address
of_address size address h = (h.sized, All-from_recursion (λ b. b < 2 ^ 8) address (all_bytes address h.bytes))

pub v4_spelled : (address : List ℕ) → IsAddress 4 address → SpellsV4 (ipv4_text address) address
v4_spelled address h = v4_written address (of_address 4 address h)

pub v6_spelled : (address : List ℕ) → IsAddress 16 address → SpellsV6 (v6_text address) address
v6_spelled address h = v6_written address (of_address 16 address h)

pub v4_contiguous : (address : List ℕ) → IsAddress 4 address → AreContiguous (ipv4_text address)
v4_contiguous address h = dotted_contiguous (ipv4_text address) address (v4_spelled address h)

pub v6_contiguous : (address : List ℕ) → IsAddress 16 address → AreContiguous (v6_text address)
v6_contiguous address h = let s = v6_spelled address h in hex_contiguous (v6_text address) s.groups s.spelled
