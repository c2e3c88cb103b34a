-- Origins that were read are valid, and the text of a valid origin spells it.
use Rattle.std.proofs.Common.{◌≡◌, ◌≢◌, ◌⊎◌, ℕ, ◌+◌, ◌^◌, ◌<◌, ◌≤◌, Bool, true, false, cond, ◌&&◌, ◌||◌, nat_eq, nat_lt, nat_le, List, [], ◌∷◌, ◌++◌, Ok, decimal, refl, sym, subst, arith, inl, inr, append_assoc}
use Rattle.std.specs.List.{list_all, list_any, AllByRecursion}
use Rattle.std.specs.Char.{is_ascii, is_ascii_digit}
use Rattle.std.specs.Net.Addr.{segments_of}
use Rattle.std.specs.Net.Text.{ipv4_text}
use Rattle.std.proofs.lemmas.List.Elements.{recursion_from_All}
use Rattle.std.proofs.NetLemmas.Alphabet.{IsDigitOrDot, IsHexOrColon, All-ipv4_text, All-hex_groups_text}
use Rattle.std.proofs.NetLemmas.Texts.{IsPortText-decimal}
use Rattle.alt_base.specs.Classes.{in_ranges, host_name_class, is_between}
use Rattle.origin_values.specs.DefaultPort.{default_port_of}
use Rattle.origin_values.specs.HostReading.{are_labels}
use Rattle.origin_values.specs.OriginGrammar.{ends_host, BeginsWith, FollowsHost, IsRun, SpellsScheme, SpellsRun, SpellsPort, SpellsOrigin}
use Rattle.origin_values.specs.OriginReading.{read_origin}
use Rattle.origin_values.specs.Valid.{AreBytes, IsHost, IsOrigin}
use Rattle.origin_values.specs.Written.{scheme_text, host_text, v6_text, port_text, origin_text}
use Rattle.origin_values.specs.declared.scheme.Scheme.{Scheme}
use Rattle.origin_values.specs.declared.scheme.Scheme.TheVariants.{Http, Https}
use Rattle.origin_values.specs.declared.host.Host.{Host}
use Rattle.origin_values.specs.declared.host.Host.TheVariants.{Name, V4, V6}
use Rattle.origin_values.specs.declared.origin.Origin.{Origin}
use Rattle.origin_values.proofs.AddressTexts.{at_each, groups_of}
use Rattle.origin_values.proofs.HostTexts.{host_valid, host_written}
use Rattle.origin_values.proofs.Names.{name_labels}
use Rattle.origin_values.proofs.Origins.{origin_complete}
use Rattle.alt_base.proofs.Conjunctions.{both}
use Rattle.alt_base.proofs.Numbers.{true_eq, eq_false, lt_true, true_le}
use Rattle.std.proofs.lemmas.Bool.{or_cases}

between : (b low high : ℕ) → is_between b (low, high) ≡ true → (low ≤ b) × (b ≤ high)
between b low high h = let t = both (nat_le low b) (nat_le b high) h in (true_le low b t.0, true_le b high t.1)

-- a byte of a host's text, outside brackets
record IsHostByte (b : ℕ) : Type 0 where
  ends : ends_host b ≡ false
  ascii : is_ascii b ≡ true
  no_bracket : b ≢ 91

host_byte : (b : ℕ) → b < 128 → b ≢ 58 → b ≢ 47 → b ≢ 63 → b ≢ 35 → b ≢ 91 → IsHostByte b
host_byte b small colon slash question hash bracket = record {
  ends = rw (eq_false b 58 colon, eq_false b 47 slash, eq_false b 63 question, eq_false b 35 hash) refl;
  ascii = lt_true b 128 small;
  no_bracket = bracket;
}

label_byte : (b : ℕ) → in_ranges host_name_class b ≡ true → IsHostByte b
label_byte b h = hyphen (or_cases (is_between b (45, 45)) _ h)
  where
    last : (is_between b (97, 122) ≡ true) ⊎ (false ≡ true) → IsHostByte b
    last (inl e) = let r = between b 97 122 e in host_byte b (omega (arith, r.1)) (λ x. omega (arith, r.0)) (λ x. omega (arith, r.0)) (λ x. omega (arith, r.0)) (λ x. omega (arith, r.0)) (λ x. omega (arith, r.0))
    last (inr e) = cc

    under : (is_between b (95, 95) ≡ true) ⊎ ((is_between b (97, 122) || false) ≡ true) → IsHostByte b
    under (inl e) = let r = between b 95 95 e in host_byte b (omega (arith, r.1)) (λ x. omega (arith, r.0)) (λ x. omega (arith, r.0)) (λ x. omega (arith, r.0)) (λ x. omega (arith, r.0)) (λ x. omega (arith, r.0))
    under (inr e) = last (or_cases (is_between b (97, 122)) false e)

    upper : (is_between b (65, 90) ≡ true) ⊎ ((is_between b (95, 95) || (is_between b (97, 122) || false)) ≡ true) → IsHostByte b
    upper (inl e) = let r = between b 65 90 e in host_byte b (omega (arith, r.1)) (λ x. omega (arith, r.0)) (λ x. omega (arith, r.0)) (λ x. omega (arith, r.0)) (λ x. omega (arith, r.0)) (λ x. omega (arith, r.1))
    upper (inr e) = under (or_cases (is_between b (95, 95)) _ e)

    digit : (is_between b (48, 57) ≡ true) ⊎ ((is_between b (65, 90) || (is_between b (95, 95) || (is_between b (97, 122) || false))) ≡ true) → IsHostByte b
    digit (inl e) = let r = between b 48 57 e in host_byte b (omega (arith, r.1)) (λ x. omega (arith, r.1)) (λ x. omega (arith, r.0)) (λ x. omega (arith, r.1)) (λ x. omega (arith, r.0)) (λ x. omega (arith, r.1))
    digit (inr e) = upper (or_cases (is_between b (65, 90)) _ e)

    hyphen : (is_between b (45, 45) ≡ true) ⊎ ((is_between b (48, 57) || (is_between b (65, 90) || (is_between b (95, 95) || (is_between b (97, 122) || false)))) ≡ true) → IsHostByte b
    hyphen (inl e) = let r = between b 45 45 e in host_byte b (omega (arith, r.1)) (λ x. omega (arith, r.1)) (λ x. omega (arith, r.1)) (λ x. omega (arith, r.1)) (λ x. omega (arith, r.0)) (λ x. omega (arith, r.1))
    hyphen (inr e) = digit (or_cases (is_between b (48, 57)) _ e)

dot_byte : (b : ℕ) → b ≡ 46 → IsHostByte b
dot_byte b h = host_byte b (omega arith) (λ x. omega arith) (λ x. omega arith) (λ x. omega arith) (λ x. omega arith) (λ x. omega arith)

label_bytes : (text : List ℕ) (count : ℕ) (digits : Bool) → are_labels count digits text ≡ true → AllByRecursion IsHostByte text
label_bytes [] count digits h = tt
label_bytes (b ∷ bs) count digits h = go (λ n d. label_bytes bs n d) (nat_eq b 46) refl h
  where
    go : ((n : ℕ) (d : Bool) → are_labels n d bs ≡ true → AllByRecursion IsHostByte bs) → (dot : Bool) → nat_eq b 46 ≡ dot
        → cond dot (nat_lt 0 count && are_labels 0 true bs) (nat_lt count 63 && (in_ranges host_name_class b && are_labels (count + 1) (digits && is_ascii_digit b) bs)) ≡ true → AllByRecursion IsHostByte (b ∷ bs)
    go later true is e = (dot_byte b (true_eq b 46 is), later 0 true (both (nat_lt 0 count) (are_labels 0 true bs) e).1)
    go later false is e =
        let t = both (nat_lt count 63) (in_ranges host_name_class b && are_labels (count + 1) (digits && is_ascii_digit b) bs) e in
        let u = both (in_ranges host_name_class b) (are_labels (count + 1) (digits && is_ascii_digit b) bs) t.1 in
        (label_byte b u.0, later (count + 1) (digits && is_ascii_digit b) u.1)

digit_or_dot_byte : (b : ℕ) → IsDigitOrDot b → IsHostByte b
digit_or_dot_byte b (inl r) = host_byte b (omega (arith, r.1)) (λ x. omega (arith, r.1)) (λ x. omega (arith, r.0)) (λ x. omega (arith, r.1)) (λ x. omega (arith, r.0)) (λ x. omega (arith, r.1))
digit_or_dot_byte b (inr e) = dot_byte b e

each_weaker : (P Q : ℕ → Type 0) → ((b : ℕ) → P b → Q b) → (xs : List ℕ) → AllByRecursion P xs → AllByRecursion Q xs
each_weaker P Q f [] h = tt
each_weaker P Q f (x ∷ xs) h = (f x h.0, each_weaker P Q f xs h.1)

none_ends : (xs : List ℕ) → AllByRecursion IsHostByte xs → list_any ends_host xs ≡ false
none_ends [] h = refl
none_ends (x ∷ xs) h = rw h.0.ends (none_ends xs h.1)

all_ascii : (xs : List ℕ) → AllByRecursion IsHostByte xs → list_all is_ascii xs ≡ true
all_ascii [] h = refl
all_ascii (x ∷ xs) h = rw h.0.ascii (all_ascii xs h.1)

no_open : (xs : List ℕ) → AllByRecursion IsHostByte xs → BeginsWith (λ b. b ≡ 91) xs → ⊥
no_open [] h e = e
no_open (x ∷ xs) h e = h.0.no_bracket e

follows_host : (scheme : Scheme) (port : ℕ) → FollowsHost (port_text scheme port)
follows_host scheme port = go (nat_eq port (default_port_of scheme))
  where
    go : (t : Bool) → FollowsHost (cond t [] (58 ∷ decimal port))
    go true = tt
    go false = refl

plain_run : (xs : List ℕ) (scheme : Scheme) (port : ℕ) → AllByRecursion IsHostByte xs → IsRun xs (port_text scheme port)
plain_run xs scheme port h = inr (record { inside = none_ends xs h; no_bracket = no_open xs h; longest = follows_host scheme port })

-- a byte of an IPv6 address
record IsGroupByte (b : ℕ) : Type 0 where
  close : nat_eq b 93 ≡ false
  ascii : is_ascii b ≡ true

group_byte : (b : ℕ) → IsHexOrColon b → IsGroupByte b
group_byte b (inl r) = record { close = eq_false b 93 (λ x. omega (arith, r.1)); ascii = lt_true b 128 (omega (arith, r.1)) }
group_byte b (inr r) = record { close = eq_false b 93 (λ x. omega (arith, r.0)); ascii = lt_true b 128 (omega (arith, r.1)) }

none_close : (xs : List ℕ) → AllByRecursion IsGroupByte xs → list_any (λ b. nat_eq b 93) xs ≡ false
none_close [] h = refl
none_close (x ∷ xs) h = rw h.0.close (none_close xs h.1)

ascii_closed : (xs : List ℕ) → AllByRecursion IsGroupByte xs → list_all is_ascii (xs ++ 93 ∷ []) ≡ true
ascii_closed [] h = refl
ascii_closed (x ∷ xs) h = rw h.0.ascii (ascii_closed xs h.1)

v4_bytes : (bytes : List ℕ) → AreBytes 4 bytes → AllByRecursion IsHostByte (ipv4_text bytes)
v4_bytes bytes h =
    let each = at_each (2 ^ 8) bytes (omega arith) (recursion_from_All (λ b. b < 2 ^ 8) bytes h.1) in
    each_weaker IsDigitOrDot IsHostByte digit_or_dot_byte (ipv4_text bytes) (recursion_from_All IsDigitOrDot (ipv4_text bytes) (All-ipv4_text bytes each))

v6_bytes : (bytes : List ℕ) → AreBytes 16 bytes → AllByRecursion IsGroupByte (v6_text bytes)
v6_bytes bytes h =
    let groups = groups_of 8 bytes h.0 (recursion_from_All (λ b. b < 2 ^ 8) bytes h.1) in
    each_weaker IsHexOrColon IsGroupByte group_byte (v6_text bytes) (recursion_from_All IsHexOrColon (v6_text bytes) (All-hex_groups_text (segments_of bytes) groups.2))

host_run : (host : Host) (scheme : Scheme) (port : ℕ) → IsHost host → IsRun (host_text host) (port_text scheme port)
host_run (Name name) scheme port h = plain_run name scheme port (label_bytes name 0 true (name_labels name name h))
host_run (V4 bytes) scheme port h = plain_run (ipv4_text bytes) scheme port (v4_bytes bytes h)
host_run (V6 bytes) scheme port h = inl (record { inner = v6_text bytes; spelled = refl; first = none_close (v6_text bytes) (v6_bytes bytes h) })

pub host_ascii : (host : Host) → IsHost host → list_all is_ascii (host_text host) ≡ true
host_ascii (Name name) h = all_ascii name (label_bytes name 0 true (name_labels name name h))
host_ascii (V4 bytes) h = all_ascii (ipv4_text bytes) (v4_bytes bytes h)
host_ascii (V6 bytes) h = ascii_closed (v6_text bytes) (v6_bytes bytes h)

port_spelled : (scheme : Scheme) (port : ℕ) → 1 ≤ port → port < 2 ^ 16 → SpellsPort scheme (port_text scheme port) port
port_spelled scheme port some short = go (nat_eq port (default_port_of scheme)) refl
  where
    go : (t : Bool) → nat_eq port (default_port_of scheme) ≡ t → SpellsPort scheme (cond t [] (58 ∷ decimal port)) port
    go true is = inl (inl refl, true_eq port (default_port_of scheme) is)
    go false is = inr (IsPortText-decimal port short, some)

scheme_spelled : (scheme : Scheme) → SpellsScheme (scheme_text scheme) scheme
scheme_spelled Http = refl
scheme_spelled Https = refl

pub origin_written : (origin : Origin) → IsOrigin origin → SpellsOrigin (origin_text origin) origin
origin_written origin h = record {
  letters = scheme_text origin.scheme;
  run = host_text origin.host;
  end = port_text origin.scheme origin.port;
  spelled = append_assoc (scheme_text origin.scheme) (host_text origin.host) (port_text origin.scheme origin.port);
  of_scheme = scheme_spelled origin.scheme;
  is_run = host_run origin.host origin.scheme origin.port h.host;
  of_host = inl (host_ascii origin.host h.host, host_written origin.host h.host);
  of_port = port_spelled origin.scheme origin.port h.some h.short;
}

pub origin_read_back : (origin : Origin) → IsOrigin origin → read_origin (origin_text origin) ≡ Ok origin
origin_read_back origin h = origin_complete (origin_text origin) origin (origin_written origin h)

run_valid : (run : List ℕ) (host : Host) → SpellsRun run host → IsHost host
run_valid run host (inl h) = host_valid run host h.1
run_valid run host (inr h) = host_valid h.1.mapped host h.1.spelled

default_valid : (scheme : Scheme) → (1 ≤ default_port_of scheme) × (default_port_of scheme < 2 ^ 16)
default_valid Http = (omega arith, omega arith)
default_valid Https = (omega arith, omega arith)

port_valid : (scheme : Scheme) (text : List ℕ) (port : ℕ) → SpellsPort scheme text port → (1 ≤ port) × (port < 2 ^ 16)
port_valid scheme text port (inl h) = subst (λ n. (1 ≤ n) × (n < 2 ^ 16)) (sym h.1) (default_valid scheme)
port_valid scheme text port (inr h) = (h.1, h.0.3)

pub origin_valid : (text : List ℕ) (origin : Origin) → SpellsOrigin text origin → IsOrigin origin
origin_valid text origin h =
    let port = port_valid origin.scheme h.end origin.port h.of_port in
    record { host = run_valid h.run origin.host h.of_host; some = port.0; short = port.1 }
