-- The octets of parameters (RFC 9460 2.2) and of their values (RFC 9460 7 and 8).
use Rattle.std.specs.Prelude.{ℕ, List, [], ◌∷◌, ◌++◌, length}
use Rattle.byteorder.specs.Endian.{big_bytes}
use Rattle.svcb_wire.specs.declared.param.Param.{Param}
use Rattle.svcb_wire.specs.declared.param.Param.TheVariants.{Mandatory, Alpn, NoDefaultAlpn, Port, V4Hint, Other, V6Hint}

-- keys in 16 bits each
abbrev pub keys_octets : List ℕ → List ℕ
keys_octets [] = []
keys_octets (key ∷ keys) = big_bytes 2 key ++ keys_octets keys

-- protocol ids, each behind its length octet
abbrev pub ids_octets : List (List ℕ) → List ℕ
ids_octets [] = []
ids_octets (id ∷ ids) = length id ∷ (id ++ ids_octets ids)

-- addresses one after the other
abbrev pub addresses_octets : List (List ℕ) → List ℕ
addresses_octets [] = []
addresses_octets (address ∷ addresses) = address ++ addresses_octets addresses

-- the number of a parameter's key (RFC 9460 14.3.2)
abbrev pub key_of : Param → ℕ
key_of (Mandatory keys) = 0
key_of (Alpn ids) = 1
key_of NoDefaultAlpn = 2
key_of (Port port) = 3
key_of (V4Hint addresses) = 4
key_of (Other key value) = key
key_of (V6Hint addresses) = 6

-- the octets of a parameter's value
abbrev pub value_of : Param → List ℕ
value_of (Mandatory keys) = keys_octets keys
value_of (Alpn ids) = ids_octets ids
value_of NoDefaultAlpn = []
value_of (Port port) = big_bytes 2 port
value_of (V4Hint addresses) = addresses_octets addresses
value_of (Other key value) = value
value_of (V6Hint addresses) = addresses_octets addresses

-- a key, a length and a value of that length
abbrev pub param_octets : Param → List ℕ
param_octets param = big_bytes 2 (key_of param) ++ (big_bytes 2 (length (value_of param)) ++ value_of param)

abbrev pub params_octets : List Param → List ℕ
params_octets [] = []
params_octets (param ∷ params) = param_octets param ++ params_octets params
