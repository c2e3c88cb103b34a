-- The authority of an alternative (RFC 7838 3, `alt-authority`), and its protocol (`protocol-id`).
use Rattle.std.specs.Prelude.{◌≡◌, ℕ, ◌<◌, ◌≤◌, List, [], ◌∷◌, ◌++◌, length, All, Option, None, Some}
use Rattle.origin_values.specs.HostGrammar.{SpellsHost}
use Rattle.origin_values.specs.PortGrammar.{SpellsPortDigits}
use Rattle.origin_values.specs.declared.host.Host.{Host}

-- 1 to 255 bytes; its spelling is its encoded form
pub record IsProtocol (proto : List ℕ) : Type 0 where
  pub some : 0 < length proto
  pub short : length proto ≤ 255
  pub bytes : All (λ b. b < 256) proto

-- 1 to 5 digits of a value from 1 to 65535
pub record SpellsPort (digits : List ℕ) (port : ℕ) : Type 0 where
  pub spelled : SpellsPortDigits digits port
  pub some : 1 ≤ port

-- nothing, or a host
abbrev pub SpellsOptionalHost : List ℕ → Option Host → Type 0
SpellsOptionalHost text None = text ≡ []
SpellsOptionalHost text (Some host) = SpellsHost text host

-- maybe a host, a colon and a port
pub record SpellsAuthority (text : List ℕ) (host : Option Host) (port : ℕ) : Type 0 where
  pub front : List ℕ
  pub digits : List ℕ
  pub spelled : text ≡ front ++ 58 ∷ digits
  pub of_host : SpellsOptionalHost front host
  pub of_port : SpellsPort digits port
