-- Reading an address, a name or a host.
use Rattle.std.specs.Prelude.{ℕ, ◌+◌, Bool, true, ◌&&◌, not, nat_eq, nat_lt, nat_le, List, [], ◌∷◌, length, map, Option, None, Some, option_map, option_and_then, Result, Ok, Err, if◌then◌else◌}
use Rattle.std.specs.Char.{is_ascii_digit, to_ascii_lowercase}
use Rattle.std.specs.Net.Addr.{octets_of}
use Rattle.std.specs.Net.Reader.{read_ipv4, read_ipv6, whole_value}
use Rattle.alt_base.specs.Classes.{in_ranges, host_name_class}
use Rattle.alt_base.specs.declared.refusal.At.{At}
use Rattle.origin_values.specs.declared.refusal.HostRefusal.{HostRefusal}
use Rattle.origin_values.specs.declared.refusal.HostRefusal.TheVariants.{BadHost}
use Rattle.origin_values.specs.declared.address.Addr.{Addr}
use Rattle.origin_values.specs.declared.address.Addr.TheVariants as address
use Rattle.origin_values.specs.declared.host.Host.{Host}
use Rattle.origin_values.specs.declared.host.Host.TheVariants.{Name, V4, V6}

-- the bytes of an IPv4 address
unfoldable pub read_v4 : List ℕ → Option (List ℕ)
read_v4 text = whole_value (read_ipv4 text)

-- the bytes of an IPv6 address
unfoldable pub read_v6 : List ℕ → Option (List ℕ)
read_v6 text = option_map octets_of (whole_value (read_ipv6 text))

-- the first of two that there is
abbrev pub first_of_two : {A : Type 0} → Option A → Option A → Option A
first_of_two (Some value) other = Some value
first_of_two None other = other

unfoldable pub read_addr : List ℕ → Option Addr
read_addr text = first_of_two (option_map address.V4 (read_v4 text)) (option_map address.V6 (read_v6 text))

-- the labels of a name, behind this many bytes of the first, which are digits alone or aren't
abbrev pub are_labels : ℕ → Bool → List ℕ → Bool
are_labels count digits [] = nat_lt 0 count && not digits
are_labels count digits (b ∷ bs) =
    if nat_eq b 46 then nat_lt 0 count && are_labels 0 true bs
    else (nat_lt count 63 && (in_ranges host_name_class b && are_labels (count + 1) (digits && is_ascii_digit b) bs))

-- at most 253 bytes, which are labels
abbrev pub is_name : List ℕ → Bool
is_name text = nat_le (length text) 253 && are_labels 0 true text

abbrev pub read_name : List ℕ → Option (List ℕ)
read_name text = if is_name text then Some (map to_ascii_lowercase text) else None

-- the text before a bracket that ends it
abbrev pub before_bracket : List ℕ → Option (List ℕ)
before_bracket [] = None
before_bracket (b ∷ []) = if nat_eq b 93 then Some [] else None
before_bracket (b ∷ c ∷ bs) = option_map (λ front. b ∷ front) (before_bracket (c ∷ bs))

-- what follows an opening bracket: an IPv6 address and the closing one
abbrev pub read_closed : List ℕ → Option (List ℕ)
read_closed text = option_and_then read_v6 (before_bracket text)

unfoldable pub read_host : List ℕ → Option Host
read_host [] = None
read_host (b ∷ bs) =
    if nat_eq b 91 then option_map V6 (read_closed bs)
    else first_of_two (option_map V4 (read_v4 (b ∷ bs))) (option_map Name (read_name (b ∷ bs)))

-- the host, or its one refusal
abbrev pub host_or_refusal : Option Host → Result Host (At HostRefusal)
host_or_refusal (Some host) = Ok host
host_or_refusal None = Err (record { place = 0; reason = BadHost })
