-- Reading a parameter's value by its key (RFC 9460 7 and 8); None where the value isn't of the key's form.
use Rattle.std.specs.Prelude.{ℕ, zero, suc, ◌||◌, nat_eq, nat_lt, if◌then◌else◌, List, [], ◌∷◌, ◌++◌, length, take, drop, Option, Some, None}
use Rattle.std.specs.Option.{option_map}
use Rattle.byteorder.specs.Endian.{big_number}
use Rattle.svcb_wire.specs.declared.param.Param.{Param}
use Rattle.svcb_wire.specs.declared.param.Param.TheVariants.{Mandatory, Alpn, NoDefaultAlpn, Port, V4Hint, Other, V6Hint}

-- the rest of some keys, behind the keys that were read and the last of them
abbrev pub keys_behind : List ℕ → ℕ → List ℕ → Option (List ℕ)
keys_behind keys last [] = Some keys
keys_behind keys last (high ∷ []) = None
keys_behind keys last (high ∷ low ∷ rest) =
    if nat_lt last (big_number 2 (high ∷ low ∷ [])) then keys_behind (keys ++ big_number 2 (high ∷ low ∷ []) ∷ []) (big_number 2 (high ∷ low ∷ [])) rest
    else None

-- an item at the front of some octets, and how many octets it takes
abbrev pub First : Type 0
First = List ℕ → Option (List ℕ × ℕ)

abbrev pub first_id : First
first_id [] = None
first_id (n ∷ rest) = if nat_eq n 0 || nat_lt (length rest) n then None else Some (take n rest, suc n)

abbrev pub first_address : ℕ → First
first_address size x = if nat_lt (length x) size then None else Some (take size x, size)

abbrev pub by_first : Option (List ℕ × ℕ) → List (List ℕ) → List ℕ → (List (List ℕ) → List ℕ → Option (List (List ℕ))) → Option (List (List ℕ))
by_first None items x next = None
by_first (Some found) items x next = next (items ++ found.0 ∷ []) (drop found.1 x)

-- at most so many items more, behind the items that were read
abbrev pub items_behind : First → ℕ → List (List ℕ) → List ℕ → Option (List (List ℕ))
items_behind first zero items [] = Some items
items_behind first zero items (b ∷ bs) = None
items_behind first (suc k) items [] = Some items
items_behind first (suc k) items (b ∷ bs) = by_first (first (b ∷ bs)) items (b ∷ bs) (items_behind first k)

-- no octet, no list
abbrev pub where_some : {A : Type 0} → List ℕ → Option A → Option A
where_some [] read = None
where_some (b ∷ bs) read = read

abbrev pub read_keys : List ℕ → Option (List ℕ)
read_keys value = where_some value (keys_behind [] 0 value)

abbrev pub read_items : First → List ℕ → Option (List (List ℕ))
read_items first value = where_some value (items_behind first (length value) [] value)

abbrev pub read_nothing : List ℕ → Option Param
read_nothing [] = Some NoDefaultAlpn
read_nothing (b ∷ bs) = None

abbrev pub read_port : List ℕ → Option Param
read_port value = if nat_eq (length value) 2 then Some (Port (big_number 2 value)) else None

-- the parameter of a key and a value
abbrev pub read_value : ℕ → List ℕ → Option Param
read_value key value =
    if nat_eq key 0 then option_map Mandatory (read_keys value)
    else (if nat_eq key 1 then option_map Alpn (read_items first_id value)
    else (if nat_eq key 2 then read_nothing value
    else (if nat_eq key 3 then read_port value
    else (if nat_eq key 4 then option_map V4Hint (read_items (first_address 4) value)
    else (if nat_eq key 6 then option_map V6Hint (read_items (first_address 16) value)
    else Some (Other key value))))))
