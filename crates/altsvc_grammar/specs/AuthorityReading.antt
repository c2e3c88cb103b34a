-- Reading the authority of an alternative (RFC 7838 3, `alt-authority`): maybe a host, a colon and a port.
use Rattle.std.specs.Prelude.{ℕ, ◌+◌, nat_eq, nat_lt, List, [], ◌∷◌, take, drop, Option, None, Some, option_map, if◌then◌else◌}
use Rattle.std.specs.Option.{option_and_then}
use Rattle.origin_values.specs.HostReading.{read_host}
use Rattle.origin_values.specs.PortReading.{read_port_digits}
use Rattle.origin_values.specs.declared.host.Host.{Host}

-- where the last colon of a text at this place stands, behind one that was found before
abbrev pub last_colon : ℕ → Option ℕ → List ℕ → Option ℕ
last_colon place found [] = found
last_colon place found (b ∷ bs) = last_colon (place + 1) (if nat_eq b 58 then Some place else found) bs

-- the port that 1 to 5 digits write, from 1 to 65535
abbrev pub unless_zero : ℕ → Option ℕ
unless_zero port = if nat_lt 0 port then Some port else None

abbrev pub read_port : List ℕ → Option ℕ
read_port digits = option_and_then unless_zero (read_port_digits digits)

-- the host of a text: none of an empty one
abbrev pub read_optional_host : List ℕ → Option (Option Host)
read_optional_host [] = Some None
read_optional_host (b ∷ bs) = option_map Some (read_host (b ∷ bs))

abbrev pub with_port : ℕ → Option (Option Host) → Option (Option Host × ℕ)
with_port port None = None
with_port port (Some host) = Some (host, port)

-- the host of this text, beside a port that was read
abbrev pub host_beside : List ℕ → Option ℕ → Option (Option Host × ℕ)
host_beside text None = None
host_beside text (Some port) = with_port port (read_optional_host text)

-- a text whose last colon stands here
abbrev pub split_at_colon : List ℕ → Option ℕ → Option (Option Host × ℕ)
split_at_colon text None = None
split_at_colon text (Some colon) = host_beside (take colon text) (read_port (drop (colon + 1) text))

abbrev pub read_authority : List ℕ → Option (Option Host × ℕ)
read_authority text = split_at_colon text (last_colon 0 None text)
