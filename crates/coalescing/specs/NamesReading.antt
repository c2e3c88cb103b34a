-- Reading a certificate's names.
use Rattle.std.specs.Prelude.{ℕ, ◌+◌, ◌&&◌, nat_eq, List, [], ◌∷◌, length, Option, None, Some, option_map, Result, Ok, Err, if◌then◌else◌}
use Rattle.std.specs.Cmp.Lexicographic.{pointwise}
use Rattle.std.specs.List.{slice_split}
use Rattle.alt_base.specs.declared.refusal.At.{At}
use Rattle.origin_values.specs.HostReading.{read_addr, read_host, first_of_two}
use Rattle.origin_values.specs.declared.host.Host.{Host}
use Rattle.origin_values.specs.declared.host.Host.TheVariants.{Name, V4, V6}
use Rattle.coalescing.specs.declared.cert_name.CertName.{CertName}
use Rattle.coalescing.specs.declared.cert_name.CertName.TheVariants.{Exact, Wild, Ip}
use Rattle.coalescing.specs.declared.refusal.CertRefusal.{CertRefusal}
use Rattle.coalescing.specs.declared.refusal.CertRefusal.TheVariants.{BadName}

-- the name of a host that has one
abbrev pub name_of : Option Host → Option (List ℕ)
name_of None = None
name_of (Some (Name name)) = Some name
name_of (Some (V4 bytes)) = None
name_of (Some (V6 bytes)) = None

abbrev pub host_name : List ℕ → Option (List ℕ)
host_name text = name_of (read_host text)

-- what stands behind `*.`
abbrev pub behind_wildcard : List ℕ → Option (List ℕ)
behind_wildcard [] = None
behind_wildcard (a ∷ []) = None
behind_wildcard (a ∷ b ∷ bs) = if nat_eq a 42 && nat_eq b 46 then Some bs else None

-- an address or a host's name
abbrev pub read_plain : List ℕ → Option CertName
read_plain text = first_of_two (option_map Ip (read_addr text)) (option_map Exact (host_name text))

abbrev pub wild_or_plain : List ℕ → Option (List ℕ) → Option CertName
wild_or_plain text (Some behind) = option_map Wild (host_name behind)
wild_or_plain text None = read_plain text

abbrev pub read_item : List ℕ → Option CertName
read_item text = wild_or_plain text (behind_wildcard text)

abbrev pub Answer : Type 0
Answer = Result (List CertName) (At CertRefusal)

-- an item's name before those of the items behind it
abbrev pub name_onto : ℕ → Option CertName → Answer → Answer
name_onto place None more = Err (record { place = place; reason = BadName })
name_onto place (Some name) (Ok names) = Ok (name ∷ names)
name_onto place (Some name) (Err at) = Err at

-- the names of items, the first of which stands at this place, with a comma behind each but the last
abbrev pub read_items : ℕ → List (List ℕ) → Answer
read_items place [] = Ok []
read_items place (item ∷ items) = name_onto place (read_item item) (read_items (place + length item + 1) items)

-- the items between the commas of a text
abbrev pub items_of : List ℕ → List (List ℕ)
items_of text = slice_split (λ b. nat_eq b 44) text

abbrev pub read_names : List ℕ → Answer
read_names text = if pointwise nat_eq text (45 ∷ []) then Ok [] else read_items 0 (items_of text)
