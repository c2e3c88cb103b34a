-- No space stands in the texts of numbers, addresses, names, origins, octets and names of DNS.
use Rattle.std.proofs.Common.{◌≡◌, ◌⊎◌, ℕ, ◌+◌, ◌<◌, ◌≤◌, ◌^◌, Bool, true, false, cond, not, ◌&&◌, nat_eq, nat_lt, List, [], ◌∷◌, ◌++◌, decimal, codes, Option, Some, is_some, refl, ap, sym, ◌∙◌, subst, arith, inl, inr}
use Rattle.std.specs.Char.{is_ascii_digit, is_ascii_graphic, digit_value}
use Rattle.std.specs.Str.Parse.{AllDigits}
use Rattle.std.specs.Net.Grammar.{IsDotted, IsColonHex, IsGroupsAfter}
use Rattle.std.proofs.lemmas.Fmt.{decimal_is_IsNumeral}
use Rattle.std.proofs.lemmas.List.Folds.{list_all-append}
use Rattle.std.proofs.lemmas.Bool.{and_from}
use Rattle.alt_base.proofs.Numbers.{lt_true, true_eq}
use Rattle.alt_base.specs.Classes.{in_ranges, host_name_class}
use Rattle.dns_names.specs.TextGrammar.{SpellsText}
use Rattle.dns_names.specs.TextParts.{Part, Raw, Quoted, Decimal, part_text, parts_text, IsPart, AreParts, dotted, AreAllParts}
use Rattle.origin_values.specs.DefaultPort.{default_port_of}
use Rattle.origin_values.specs.HostGrammar.{SpellsName, SpellsAddr, SpellsHost}
use Rattle.origin_values.specs.HostReading.{are_labels}
use Rattle.origin_values.specs.Valid.{IsAddr, IsHost, IsOrigin}
use Rattle.origin_values.specs.Written.{addr_text, host_text, scheme_text, port_text, origin_text}
use Rattle.origin_values.specs.declared.address.Addr.{Addr}
use Rattle.origin_values.specs.declared.address.Addr.TheVariants as address
use Rattle.origin_values.specs.declared.host.Host.{Host}
use Rattle.origin_values.specs.declared.host.Host.TheVariants.{Name, V4, V6}
use Rattle.origin_values.specs.declared.origin.Origin.{Origin}
use Rattle.origin_values.specs.declared.scheme.Scheme.{Scheme}
use Rattle.origin_values.specs.declared.scheme.Scheme.TheVariants.{Http, Https}
use Rattle.origin_values.proofs.Names.{name_labels}
use Rattle.origin_values.proofs.AddressTexts.{addr_written}
use Rattle.origin_values.proofs.HostTexts.{host_written}
use Rattle.hex.specs.Hex.{hex_digit_value, is_hex_digit, encode_lower, IsBytes}
use Rattle.hex.proofs.HexLemmas.{decode_of-encode_lower}
use Rattle.hex_text.specs.HexGrammar.{SpellsHex}
use Rattle.hex_text.proofs.HexReading.{hex_spelled}
use Rattle.coalescing.specs.NamesWritten.{name_text, further_text, names_text, IsCertName, AreCertNames, HaveText}
use Rattle.coalescing.specs.declared.cert_name.CertName.{CertName}
use Rattle.coalescing.specs.declared.cert_name.CertName.TheVariants.{Exact, Wild, Ip}
use Rattle.alt_base.proofs.Conjunctions.{both}
use Rattle.event_lines.proofs.Spaces.{is_inner, IsInner}
use Rattle.alt_base.proofs.Digits.{dotted_assoc}

-- what a test that refuses spaces passes is none
inner_from : (test : ℕ → Bool) → test 32 ≡ false → (b : ℕ) → test b ≡ true → is_inner b ≡ true
inner_from test no_space b h = go (nat_eq b 32) refl
  where
    clash : false ≡ true → ⊥
    clash e = cc

    go : (t : Bool) → nat_eq b 32 ≡ t → not t ≡ true
    go false is = refl
    go true is = absurd (clash (sym no_space ∙ ap test (sym (true_eq b 32 is)) ∙ h))

inner_append : (xs ys : List ℕ) → IsInner xs → IsInner ys → IsInner (xs ++ ys)
inner_append xs ys h k = list_all-append is_inner xs ys ∙ and_from _ _ h k

labels_inner : (text : List ℕ) (count : ℕ) (digits : Bool) → are_labels count digits text ≡ true → IsInner text
labels_inner [] count digits h = refl
labels_inner (b ∷ bs) count digits h = go (λ n d. labels_inner bs n d) (nat_eq b 46) refl h
  where
    go : ((n : ℕ) (d : Bool) → are_labels n d bs ≡ true → IsInner bs) → (dot : Bool) → nat_eq b 46 ≡ dot
        → cond dot (nat_lt 0 count && are_labels 0 true bs) (nat_lt count 63 && (in_ranges host_name_class b && are_labels (count + 1) (digits && is_ascii_digit b) bs)) ≡ true
        → IsInner (b ∷ bs)
    go later true is e =
        let t = both (nat_lt 0 count) (are_labels 0 true bs) e in
        and_from _ _ (inner_from (λ c. nat_eq c 46) refl b is) (later 0 true t.1)
    go later false is e =
        let t = both (nat_lt count 63) (in_ranges host_name_class b && are_labels (count + 1) (digits && is_ascii_digit b) bs) e in
        let u = both (in_ranges host_name_class b) (are_labels (count + 1) (digits && is_ascii_digit b) bs) t.1 in
        and_from _ _ (inner_from (in_ranges host_name_class) refl b u.0) (later (count + 1) (digits && is_ascii_digit b) u.1)

name_inner : (text name : List ℕ) → SpellsName text name → IsInner text
name_inner text name h = labels_inner text 0 true (name_labels text name h)

digits_inner : (radix : ℕ) (ds : List ℕ) → radix ≤ 16 → AllDigits radix ds → IsInner ds
digits_inner radix [] small h = refl
digits_inner radix (c ∷ ds) small h =
    let digit : digit_value c < 16 = omega (arith, h.0) in
    and_from _ _ (inner_from (λ b. nat_lt (digit_value b) 16) refl c (lt_true (digit_value c) 16 digit)) (digits_inner radix ds small h.1)

pub number_inner : (n : ℕ) → n < 2 ^ 64 → IsInner (decimal n)
number_inner n small = digits_inner 10 (decimal n) (omega arith) (decimal_is_IsNumeral n small).0.1

dot_then : (n : ℕ) (rest : List ℕ) → n < 256 → IsInner rest → IsInner (decimal n ++ 46 ∷ rest)
dot_then n rest small h = inner_append (decimal n) (46 ∷ rest) (number_inner n (omega arith)) h

dotted_inner : (text octets : List ℕ) → IsDotted text octets → IsInner text
dotted_inner text octets h =
    subst IsInner (sym (h.spelled ∙ dotted_assoc h.a h.b h.c h.d))
    (dot_then h.a _ h.fit.0 (dot_then h.b _ h.fit.1 (dot_then h.c _ h.fit.2 (number_inner h.d (omega (arith, h.fit.3))))))

groups_inner : (ipv4 : Bool) (segments lead text : List ℕ) → IsInner lead → IsGroupsAfter ipv4 lead text segments → IsInner text
groups_inner ipv4 [] lead text inner h = subst IsInner (sym h) refl
groups_inner ipv4 (s ∷ segments) lead text inner (inl h) =
    subst IsInner (sym h.2)
    (inner_append (lead ++ h.0) h.1 (inner_append lead h.0 inner (digits_inner 16 h.0 (omega arith) h.3.0.0.1)) (groups_inner ipv4 segments (58 ∷ []) h.1 refl h.4))
groups_inner ipv4 (s ∷ segments) lead text inner (inr h) = subst IsInner (sym h.3) (inner_append lead h.0 inner (dotted_inner h.0 h.1 h.4))

hex_inner : (text segments : List ℕ) → IsColonHex text segments → IsInner text
hex_inner text segments (inl h) = groups_inner true segments [] text refl h.0
hex_inner text segments (inr h) =
    subst IsInner (sym h.spelled)
    (inner_append (h.head_text ++ 58 ∷ 58 ∷ []) h.tail_text
    (inner_append h.head_text (58 ∷ 58 ∷ []) (groups_inner false h.head [] h.head_text refl h.head_groups) refl)
    (groups_inner true h.tail [] h.tail_text refl h.tail_groups))

spelled_addr_inner : (text : List ℕ) (addr : Addr) → SpellsAddr text addr → IsInner text
spelled_addr_inner text (address.V4 bytes) h = dotted_inner text bytes h
spelled_addr_inner text (address.V6 bytes) h = hex_inner text h.groups h.spelled

pub addr_inner : (addr : Addr) → IsAddr addr → IsInner (addr_text addr)
addr_inner addr h = spelled_addr_inner (addr_text addr) addr (addr_written addr h)

spelled_host_inner : (text : List ℕ) (host : Host) → SpellsHost text host → IsInner text
spelled_host_inner text (Name name) h = name_inner text name h
spelled_host_inner text (V4 bytes) h = dotted_inner text bytes h
spelled_host_inner text (V6 bytes) h =
    subst IsInner (sym h.spelled)
    (inner_append (codes "[" ++ h.inner) (codes "]") (inner_append (codes "[") h.inner refl (hex_inner h.inner h.address.groups h.address.spelled)) refl)

host_inner : (host : Host) → IsHost host → IsInner (host_text host)
host_inner host h = spelled_host_inner (host_text host) host (host_written host h)

scheme_inner : (scheme : Scheme) → IsInner (scheme_text scheme)
scheme_inner Http = refl
scheme_inner Https = refl

port_inner : (scheme : Scheme) (port : ℕ) → port < 2 ^ 16 → IsInner (port_text scheme port)
port_inner scheme port short = go (nat_eq port (default_port_of scheme))
  where
    go : (t : Bool) → IsInner (cond t [] (58 ∷ decimal port))
    go true = refl
    go false = number_inner port (omega arith)

pub origin_inner : (origin : Origin) → IsOrigin origin → IsInner (origin_text origin)
origin_inner origin h =
    inner_append (scheme_text origin.scheme ++ host_text origin.host) (port_text origin.scheme origin.port)
    (inner_append (scheme_text origin.scheme) (host_text origin.host) (scheme_inner origin.scheme) (host_inner origin.host h.host))
    (port_inner origin.scheme origin.port h.short)

cert_inner : (name : CertName) → IsCertName name → IsInner (name_text name)
cert_inner (Exact name) h = name_inner name name h
cert_inner (Wild base) h = name_inner base base h
cert_inner (Ip addr) h = addr_inner addr h

further_inner : (names : List CertName) → AreCertNames names → IsInner (further_text names)
further_inner [] h = refl
further_inner (name ∷ names) h = inner_append (name_text name) (further_text names) (cert_inner name h.0) (further_inner names h.1)

each_inner : (names : List CertName) → AreCertNames names → IsInner (names_text names)
each_inner [] h = refl
each_inner (name ∷ names) h = inner_append (name_text name) (further_text names) (cert_inner name h.0) (further_inner names h.1)

pub names_inner : (names : List CertName) → HaveText names → IsInner (names_text names)
names_inner names h = each_inner names h.each

hex_digit_inner : (b value : ℕ) → hex_digit_value b ≡ Some value → is_inner b ≡ true
hex_digit_inner b value h = inner_from is_hex_digit refl b (ap (λ (o : Option ℕ). is_some o) h)

hex_digits_inner : (digits octets : List ℕ) → SpellsHex digits octets → IsInner digits
hex_digits_inner [] [] s = refl
hex_digits_inner [] (octet ∷ octets) s = absurd s
hex_digits_inner (high ∷ []) [] s = absurd s
hex_digits_inner (high ∷ []) (octet ∷ octets) s = absurd s
hex_digits_inner (high ∷ low ∷ digits) [] s = absurd s
hex_digits_inner (high ∷ low ∷ digits) (octet ∷ octets) s =
    and_from _ _ (hex_digit_inner high s.0.upper s.0.of_high) (and_from _ _ (hex_digit_inner low s.0.lower s.0.of_low) (hex_digits_inner digits octets s.1))

pub octets_inner : (octets : List ℕ) → IsBytes octets → IsInner (encode_lower octets)
octets_inner octets h = hex_digits_inner (encode_lower octets) octets (hex_spelled (encode_lower octets) octets (decode_of-encode_lower octets h))

shown_inner : (b : ℕ) → is_ascii_graphic b ≡ true → IsInner (b ∷ [])
shown_inner b h = and_from (is_inner b) true (inner_from is_ascii_graphic refl b h) refl

digit_inner : (b : ℕ) → is_ascii_digit b ≡ true → IsInner (b ∷ [])
digit_inner b h = and_from (is_inner b) true (inner_from is_ascii_digit refl b h) refl

part_inner : (part : Part) → IsPart part → IsInner (part_text part)
part_inner (Raw b) h = shown_inner b h.0
part_inner (Quoted b) h = inner_append (92 ∷ []) (b ∷ []) refl (shown_inner b h.0)
part_inner (Decimal a b c) h =
    inner_append (92 ∷ []) (a ∷ b ∷ c ∷ []) refl (inner_append (a ∷ []) (b ∷ c ∷ []) (digit_inner a h.0) (inner_append (b ∷ []) (c ∷ []) (digit_inner b h.1) (digit_inner c h.2)))

parts_inner : (parts : List Part) → AreParts parts → IsInner (parts_text parts)
parts_inner [] h = refl
parts_inner (part ∷ parts) h = inner_append (part_text part) (parts_text parts) (part_inner part h.0) (parts_inner parts h.1)

labels_text_inner : (labels : List (List Part)) → AreAllParts labels → IsInner (dotted labels)
labels_text_inner [] h = refl
labels_text_inner (parts ∷ labels) h = inner_append (parts_text parts) (46 ∷ dotted labels) (parts_inner parts h.0) (labels_text_inner labels h.1)

end_inner : (end : List ℕ) → (end ≡ []) ⊎ (end ≡ 46 ∷ []) → IsInner end
end_inner end (inl none) = subst IsInner (sym none) refl
end_inner end (inr dot) = subst IsInner (sym dot) refl

pub dns_name_inner : (text : List ℕ) (name : List (List ℕ)) → SpellsText text name → IsInner text
dns_name_inner text name (inl h) = subst IsInner (sym h.0) refl
dns_name_inner text name (inr s) =
    subst IsInner (sym s.text)
    (inner_append (dotted s.labels) (parts_text s.last ++ s.end) (labels_text_inner s.labels s.valid) (inner_append (parts_text s.last) s.end (parts_inner s.last s.last_valid) (end_inner s.end s.final_dot)))
