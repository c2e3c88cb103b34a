-- Reading what a string stands for, by its key; None where it isn't of the key's form.
use Rattle.std.specs.Prelude.{ℕ, Bool, ◌&&◌, ◌||◌, nat_eq, nat_le, if◌then◌else◌, List, [], ◌∷◌, ◌++◌, length, Option, Some, None}
use Rattle.std.specs.List.{list_all, list_any, slice_split}
use Rattle.std.specs.Option.{option_map}
use Rattle.std.specs.Char.{is_ascii_digit}
use Rattle.std.specs.Str.Parse.{digits_value}
use Rattle.origin_values.specs.HostReading.{read_addr}
use Rattle.origin_values.specs.declared.address.Addr.{Addr}
use Rattle.origin_values.specs.declared.address.Addr.TheVariants as address
use Rattle.svcb_wire.specs.declared.param.Param.{Param}
use Rattle.svcb_wire.specs.declared.param.Param.TheVariants.{Mandatory, Alpn, NoDefaultAlpn, Port, V4Hint, Other, V6Hint}
use Rattle.svcb_values.specs.declared.unescaped.Unescaped.{Unescaped}
use Rattle.svcb_values.specs.KeyNames.{key_named}
use Rattle.svcb_values.specs.Placing.{placed_key}

-- the texts between the commas
abbrev pub items_of : List ℕ → List (List ℕ)
items_of text = slice_split (λ b. nat_eq b 44) text

abbrev pub has_number : List ℕ → ℕ → Bool
has_number keys key = list_any (λ other. nat_eq other key) keys

-- a further key of a mandatory list
abbrev pub with_key : List ℕ → Option ℕ → Option (List ℕ)
with_key keys None = None
with_key keys (Some key) = if nat_eq key 0 || has_number keys key then None else Some (placed_key key keys)

abbrev pub then_keys : Option (List ℕ) → (List ℕ → Option (List ℕ)) → Option (List ℕ)
then_keys None next = None
then_keys (Some keys) next = next keys

-- the keys that texts name, beside those that were read
abbrev pub keys_beside : List (List ℕ) → List ℕ → Option (List ℕ)
keys_beside [] keys = Some keys
keys_beside (text ∷ texts) keys = then_keys (with_key keys (key_named text)) (keys_beside texts)

abbrev pub read_keys : List ℕ → Option (List ℕ)
read_keys text = keys_beside (items_of text) []

-- an id that may end there
abbrev pub is_id : List ℕ → Bool
is_id id = nat_le 1 (length id) && nat_le (length id) 255

abbrev pub is_escaped : ℕ → Bool
is_escaped b = nat_eq b 44 || nat_eq b 92

abbrev pub with_id : List (List ℕ) → List ℕ → Option (List (List ℕ))
with_id ids id = if is_id id then Some (ids ++ id ∷ []) else None

abbrev pub then_ids : Option (List (List ℕ)) → (List (List ℕ) → Option (List (List ℕ))) → Option (List (List ℕ))
then_ids None next = None
then_ids (Some ids) next = next ids

-- the rest of some ids, behind whole ids and the bytes of one more
abbrev pub ids_behind : List (List ℕ) → List ℕ → List ℕ → Option (List (List ℕ))
ids_behind ids id [] = with_id ids id
ids_behind ids id (b ∷ []) =
    if nat_eq b 44 then then_ids (with_id ids id) (λ more. None)
    else (if nat_eq b 92 then None else with_id ids (id ++ b ∷ []))
ids_behind ids id (b ∷ c ∷ rest) =
    if nat_eq b 44 then then_ids (with_id ids id) (λ more. ids_behind more [] (c ∷ rest))
    else (if nat_eq b 92 then (if is_escaped c then ids_behind ids (id ++ c ∷ []) rest else None)
    else ids_behind ids (id ++ b ∷ []) (c ∷ rest))

abbrev pub read_ids : List ℕ → Option (List (List ℕ))
read_ids text = ids_behind [] [] text

-- an address of four octets, or of sixteen
abbrev pub v4_of : Option Addr → Option (List ℕ)
v4_of None = None
v4_of (Some (address.V4 bytes)) = Some bytes
v4_of (Some (address.V6 bytes)) = None

abbrev pub v6_of : Option Addr → Option (List ℕ)
v6_of None = None
v6_of (Some (address.V4 bytes)) = None
v6_of (Some (address.V6 bytes)) = Some bytes

abbrev pub read_v4 : List ℕ → Option (List ℕ)
read_v4 text = v4_of (read_addr text)

abbrev pub read_v6 : List ℕ → Option (List ℕ)
read_v6 text = v6_of (read_addr text)

abbrev pub onto : Option (List ℕ) → Option (List (List ℕ)) → Option (List (List ℕ))
onto None more = None
onto (Some address) None = None
onto (Some address) (Some more) = Some (address ∷ more)

abbrev pub read_each : (List ℕ → Option (List ℕ)) → List (List ℕ) → Option (List (List ℕ))
read_each read [] = Some []
read_each read (text ∷ texts) = onto (read text) (read_each read texts)

-- one to five digits of a number of at most 65535
abbrev pub read_port : List ℕ → Option ℕ
read_port [] = None
read_port (b ∷ bs) =
    if list_all is_ascii_digit (b ∷ bs) && (nat_le (length (b ∷ bs)) 5 && nat_le (digits_value 10 (b ∷ bs)) 65535) then Some (digits_value 10 (b ∷ bs)) else None

abbrev pub read_nothing : List ℕ → Option Param
read_nothing [] = Some NoDefaultAlpn
read_nothing (b ∷ bs) = None

-- only where no backslash stands in the string
abbrev pub where_plain : {A : Type 0} → Bool → Option A → Option A
where_plain plain read = if plain then read else None

-- the parameter of a key and a string's value
abbrev pub read_value : ℕ → Unescaped → Option Param
read_value key value =
    if nat_eq key 0 then where_plain value.plain (option_map Mandatory (read_keys value.bytes))
    else (if nat_eq key 1 then option_map Alpn (read_ids value.bytes)
    else (if nat_eq key 2 then read_nothing value.bytes
    else (if nat_eq key 3 then where_plain value.plain (option_map Port (read_port value.bytes))
    else (if nat_eq key 4 then where_plain value.plain (option_map V4Hint (read_each read_v4 (items_of value.bytes)))
    else (if nat_eq key 6 then where_plain value.plain (option_map V6Hint (read_each read_v6 (items_of value.bytes)))
    else Some (Other key value.bytes))))))
