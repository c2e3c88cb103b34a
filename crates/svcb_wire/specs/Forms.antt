-- Which values a parameter may have (RFC 9460 2.2, 7 and 8).
use Rattle.std.specs.Prelude.{◌≡◌, ◌≤◌, ◌<◌, ◌⊎◌, ℕ, suc, List, [], ◌∷◌, length}
use Rattle.dns_names.specs.Names.{AreBytes}
use Rattle.svcb_wire.specs.declared.param.Param.{Param}
use Rattle.svcb_wire.specs.declared.param.Param.TheVariants.{Mandatory, Alpn, NoDefaultAlpn, Port, V4Hint, Other, V6Hint}
use Rattle.svcb_wire.specs.Octets.{key_of, value_of}

-- keys of 16 bits, each above the one before it
abbrev pub AreRising : ℕ → List ℕ → Type 0
AreRising last [] = Unit {0}
AreRising last (key ∷ keys) = (last < key) × (key < 65536) × AreRising key keys

-- an id of 1 to 255 octets
pub record IsId (id : List ℕ) : Type 0 where
  pub some : 1 ≤ length id
  pub most : length id ≤ 255
  pub bytes : AreBytes id

abbrev pub AreIds : List (List ℕ) → Type 0
AreIds [] = Unit {0}
AreIds (id ∷ ids) = IsId id × AreIds ids

-- an address of so many octets
pub record IsAddress (size : ℕ) (address : List ℕ) : Type 0 where
  pub sized : length address ≡ size
  pub bytes : AreBytes address

abbrev pub AreAddresses : ℕ → List (List ℕ) → Type 0
AreAddresses size [] = Unit {0}
AreAddresses size (address ∷ addresses) = IsAddress size address × AreAddresses size addresses

-- a key without a form of its own
abbrev pub IsOtherKey : ℕ → Type 0
IsOtherKey key = (key ≡ 5) ⊎ ((6 < key) × (key < 65536))

-- a value of its key's form; mandatory doesn't list key 0, which is itself
abbrev pub HasForm : Param → Type 0
HasForm (Mandatory keys) = (1 ≤ length keys) × AreRising 0 keys
HasForm (Alpn ids) = (1 ≤ length ids) × AreIds ids
HasForm NoDefaultAlpn = Unit {0}
HasForm (Port port) = port < 65536
HasForm (V4Hint addresses) = (1 ≤ length addresses) × AreAddresses 4 addresses
HasForm (Other key value) = IsOtherKey key × AreBytes value
HasForm (V6Hint addresses) = (1 ≤ length addresses) × AreAddresses 16 addresses

-- its length is written in 16 bits
pub record IsParam (param : Param) : Type 0 where
  pub form : HasForm param
  pub sized : length (value_of param) < 65536

-- parameters in strictly increasing keys, the first not below a least one
abbrev pub AreParams : ℕ → List Param → Type 0
AreParams least [] = Unit {0}
AreParams least (param ∷ params) = (least ≤ key_of param) × IsParam param × AreParams (suc (key_of param)) params
