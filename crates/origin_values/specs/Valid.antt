-- What holds of the values of each type.
use Rattle.std.specs.Prelude.{◌≡◌, ℕ, ◌<◌, ◌≤◌, ◌^◌, List, length, All}
use Rattle.origin_values.specs.declared.address.Addr.{Addr}
use Rattle.origin_values.specs.declared.address.Addr.TheVariants as address
use Rattle.origin_values.specs.declared.host.Host.{Host}
use Rattle.origin_values.specs.declared.host.Host.TheVariants.{Name, V4, V6}
use Rattle.origin_values.specs.declared.origin.Origin.{Origin}
use Rattle.origin_values.specs.HostGrammar.{SpellsName}

-- this many bytes
abbrev pub AreBytes : ℕ → List ℕ → Type 0
AreBytes count bytes = (length bytes ≡ count) × All (λ b. b < 2 ^ 8) bytes

abbrev pub IsAddr : Addr → Type 0
IsAddr (address.V4 bytes) = AreBytes 4 bytes
IsAddr (address.V6 bytes) = AreBytes 16 bytes

-- a name is in its form and in lower case: it spells itself
abbrev pub IsHost : Host → Type 0
IsHost (Name name) = SpellsName name name
IsHost (V4 bytes) = AreBytes 4 bytes
IsHost (V6 bytes) = AreBytes 16 bytes

-- the port is 1 to 65535
pub record IsOrigin (origin : Origin) : Type 0 where
  pub host : IsHost origin.host
  pub some : 1 ≤ origin.port
  pub short : origin.port < 2 ^ 16
