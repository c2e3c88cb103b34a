-- The text of an origin in its form has fewer than 65,536 bytes.
use Rattle.std.proofs.Common.{◌≡◌, ℕ, zero, suc, ◌+◌, ◌*◌, ◌/◌, ◌%◌, ◌^◌, ◌<◌, ◌≤◌, Bool, true, false, cond, nat_eq, nat_lt, List, [], ◌∷◌, ◌++◌, length, take, drop, flat_map, codes, decimal, Option, None, Some, arith}
use Rattle.std.proofs.lemmas.Fmt.{length-decimal-le}
use Rattle.std.specs.List.{AllByRecursion}
use Rattle.std.proofs.lemmas.List.{length-append, length-drop}
use Rattle.std.proofs.lemmas.List.Elements.{recursion_from_All}
use Rattle.std.specs.Char.{digit_char}
use Rattle.std.specs.Net.Addr.{segments_of}
use Rattle.std.specs.Net.Text.{dotted_text, ipv4_text, hex, leading_zero_digits, groups_text, longest_zero_run, compressed_text, hex_groups_text}
use Rattle.origin_values.specs.DefaultPort.{default_port_of}
use Rattle.origin_values.specs.HostGrammar.{SpellsName}
use Rattle.origin_values.specs.Valid.{IsHost, IsOrigin}
use Rattle.origin_values.specs.Written.{v6_text, host_text, scheme_text, port_text, origin_text}
use Rattle.origin_values.specs.declared.scheme.Scheme.{Scheme}
use Rattle.origin_values.specs.declared.scheme.Scheme.TheVariants.{Http, Https}
use Rattle.origin_values.specs.declared.host.Host.{Host}
use Rattle.origin_values.specs.declared.host.Host.TheVariants.{Name, V4, V6}
use Rattle.origin_values.specs.declared.origin.Origin.{Origin}
use Rattle.altsvc_frame.specs.FrameWritten.{IsOptionalOrigin, optional_origin_text}

hex_length : (n : ℕ) → length (hex n) ≤ 4
unfolding hex
hex_length n = omega (arith, length-drop (leading_zero_digits n) (digit_char (n / 0x1000) ∷ digit_char (n / 0x100 % 16) ∷ digit_char (n / 0x10 % 16) ∷ digit_char (n % 16) ∷ []))

more_length : (xs : List ℕ) → length (flat_map (λ t. codes ":" ++ hex t) xs) ≤ 5 * length xs
more_length [] = omega arith
more_length (x ∷ xs) = omega (arith, hex_length x, more_length xs, length-append (codes ":" ++ hex x) (flat_map (λ t. codes ":" ++ hex t) xs))

groups_length : (xs : List ℕ) → length (groups_text xs) ≤ 5 * length xs
groups_length [] = omega arith
groups_length (x ∷ xs) = omega (arith, hex_length x, more_length xs, length-append (hex x) (flat_map (λ t. codes ":" ++ hex t) xs))

take_length : (n : ℕ) (xs : List ℕ) → length (take n xs) ≤ length xs
take_length zero xs = omega arith
take_length (suc n) [] = omega arith
take_length (suc n) (x ∷ xs) = omega (arith, take_length n xs)

joined_length : (front back xs : List ℕ) → length front ≤ length xs → length back ≤ length xs → length (groups_text front ++ codes "::" ++ groups_text back) ≤ 10 * length xs + 2
joined_length front back xs h k = omega (arith, length-append (groups_text front ++ codes "::") (groups_text back), length-append (groups_text front) (codes "::"), groups_length front, groups_length back, h, k)

whole_length : (xs : List ℕ) → length (groups_text xs) ≤ 10 * length xs + 2
whole_length xs = omega (arith, groups_length xs)

drop_length : (n : ℕ) (xs : List ℕ) → length (drop n xs) ≤ length xs
drop_length n xs = omega (arith, length-drop n xs)

compressed_length : (xs : List ℕ) (run : ℕ × ℕ) → length (compressed_text xs run) ≤ 10 * length xs + 2
compressed_length xs run = go (nat_lt 1 run.1)
  where
    go : (t : Bool) → length (cond t (groups_text (take run.0 xs) ++ codes "::" ++ groups_text (drop (run.0 + run.1) xs)) (groups_text xs)) ≤ 10 * length xs + 2
    go true = joined_length (take run.0 xs) (drop (run.0 + run.1) xs) xs (take_length run.0 xs) (drop_length (run.0 + run.1) xs)
    go false = whole_length xs

v6_length : (bytes : List ℕ) → length bytes ≡ 16 → length (v6_text bytes) ≤ 82
unfolding hex_groups_text
v6_length (a ∷ b ∷ c ∷ d ∷ e ∷ f ∷ g ∷ h ∷ i ∷ j ∷ k ∷ l ∷ m ∷ n ∷ o ∷ p ∷ []) long = compressed_length (segments_of (a ∷ b ∷ c ∷ d ∷ e ∷ f ∷ g ∷ h ∷ i ∷ j ∷ k ∷ l ∷ m ∷ n ∷ o ∷ p ∷ [])) (longest_zero_run (segments_of (a ∷ b ∷ c ∷ d ∷ e ∷ f ∷ g ∷ h ∷ i ∷ j ∷ k ∷ l ∷ m ∷ n ∷ o ∷ p ∷ [])))
v6_length bytes long = absurd (omega arith)

-- fewer than 256 bytes in decimal
byte_length : (b : ℕ) → b < 2 ^ 8 → length (decimal b) ≤ 3
byte_length b h = length-decimal-le 3 b (omega arith) (omega (arith, h)) (omega (arith, h))

joined_by_dots : (a b c d : List ℕ) → length a ≤ 3 → length b ≤ 3 → length c ≤ 3 → length d ≤ 3 → length (a ++ codes "." ++ b ++ codes "." ++ c ++ codes "." ++ d) ≤ 82
joined_by_dots a b c d p q r s =
    omega (
      arith,
      p,
      q,
      r,
      s,
      length-append a (codes "."),
      length-append (a ++ codes ".") b,
      length-append (a ++ codes "." ++ b) (codes "."),
      length-append (a ++ codes "." ++ b ++ codes ".") c,
      length-append (a ++ codes "." ++ b ++ codes "." ++ c) (codes "."),
      length-append (a ++ codes "." ++ b ++ codes "." ++ c ++ codes ".") d,
    )

dotted_length : (a b c d : ℕ) → a < 2 ^ 8 → b < 2 ^ 8 → c < 2 ^ 8 → d < 2 ^ 8 → length (dotted_text a b c d) ≤ 82
dotted_length a b c d p q r s = joined_by_dots (decimal a) (decimal b) (decimal c) (decimal d) (byte_length a p) (byte_length b q) (byte_length c r) (byte_length d s)

v4_length : (bytes : List ℕ) → length bytes ≡ 4 → AllByRecursion (λ b. b < 2 ^ 8) bytes → length (ipv4_text bytes) ≤ 82
v4_length (a ∷ b ∷ c ∷ d ∷ []) long h = dotted_length a b c d h.0 h.1.0 h.1.1.0 h.1.1.1.0
v4_length [] long h = absurd (omega (arith, long))
v4_length (a ∷ []) long h = absurd (omega (arith, long))
v4_length (a ∷ b ∷ []) long h = absurd (omega (arith, long))
v4_length (a ∷ b ∷ c ∷ []) long h = absurd (omega (arith, long))
v4_length (a ∷ b ∷ c ∷ d ∷ e ∷ more) long h = absurd (omega (arith, long))

bracketed_length : (text : List ℕ) → length text ≤ 82 → length (codes "[" ++ text ++ codes "]") ≤ 84
bracketed_length text h = omega (arith, length-append (codes "[" ++ text) (codes "]"), length-append (codes "[") text, h)

name_length : (text name : List ℕ) → SpellsName text name → length text ≤ 253
name_length text name h = h.short

host_length : (host : Host) → IsHost host → length (host_text host) ≤ 253
host_length (Name name) h = name_length name name h
host_length (V4 bytes) h = omega (arith, v4_length bytes h.0 (recursion_from_All (λ b. b < 2 ^ 8) bytes h.1))
host_length (V6 bytes) h = omega (arith, bracketed_length (v6_text bytes) (v6_length bytes h.0))

scheme_length : (scheme : Scheme) → length (scheme_text scheme) ≤ 8
scheme_length Http = omega arith
scheme_length Https = omega arith

port_length : (scheme : Scheme) (port : ℕ) → port < 2 ^ 16 → length (port_text scheme port) ≤ 6
port_length scheme port h = go (nat_eq port (default_port_of scheme))
  where
    digits : length (decimal port) ≤ 5
    digits = length-decimal-le 5 port (omega arith) (omega (arith, h)) (omega (arith, h))

    more : length (codes ":" ++ decimal port) ≤ 6
    more = omega (arith, digits)

    none : 0 ≤ 6
    none = omega arith

    go : (t : Bool) → length (cond t [] (codes ":" ++ decimal port)) ≤ 6
    go true = none
    go false = more

pub origin_length : (origin : Origin) → IsOrigin origin → length (origin_text origin) < 2 ^ 16
origin_length origin h =
    omega (
      arith,
      length-append (scheme_text origin.scheme ++ host_text origin.host) (port_text origin.scheme origin.port),
      length-append (scheme_text origin.scheme) (host_text origin.host),
      scheme_length origin.scheme,
      host_length origin.host h.host,
      port_length origin.scheme origin.port h.short,
    )

pub optional_origin_length : (origin : Option Origin) → IsOptionalOrigin origin → length (optional_origin_text origin) < 2 ^ 16
optional_origin_length None h = omega arith
optional_origin_length (Some origin) h = origin_length origin h
