-- The texts that addresses, hosts and origins are written as.
use Rattle.std.specs.Prelude.{ℕ, List, [], ◌++◌, codes, decimal, if◌then◌else◌, ◌==◌}
use Rattle.std.specs.Net.Addr.{segments_of}
use Rattle.std.specs.Net.Text.{ipv4_text, hex_groups_text}
use Rattle.origin_values.specs.DefaultPort.{default_port_of}
use Rattle.origin_values.specs.declared.scheme.Scheme.{Scheme}
use Rattle.origin_values.specs.declared.scheme.Scheme.TheVariants.{Http, Https}
use Rattle.origin_values.specs.declared.address.Addr.{Addr}
use Rattle.origin_values.specs.declared.address.Addr.TheVariants as address
use Rattle.origin_values.specs.declared.host.Host.{Host}
use Rattle.origin_values.specs.declared.host.Host.TheVariants.{Name, V4, V6}
use Rattle.origin_values.specs.declared.origin.Origin.{Origin}

-- RFC 5952 4: groups of lower-case hex digits without leading zeros; the longest run of two zero groups or more, and
-- of equally long ones the first, is `::`. No part is written with dots.
abbrev pub v6_text : List ℕ → List ℕ
v6_text bytes = hex_groups_text (segments_of bytes)

-- four decimal numbers joined by dots, or the text of an IPv6 address
abbrev pub addr_text : Addr → List ℕ
addr_text (address.V4 bytes) = ipv4_text bytes
addr_text (address.V6 bytes) = v6_text bytes

-- a name, an IPv4 address, or an IPv6 address in brackets (RFC 3986 3.2.2)
abbrev pub host_text : Host → List ℕ
host_text (Name name) = name
host_text (V4 bytes) = ipv4_text bytes
host_text (V6 bytes) = codes "[" ++ v6_text bytes ++ codes "]"

abbrev pub scheme_text : Scheme → List ℕ
scheme_text Http = codes "http://"
scheme_text Https = codes "https://"

-- a colon and the port in decimal, where it isn't the scheme's default
abbrev pub port_text : Scheme → ℕ → List ℕ
port_text scheme port = if port == default_port_of scheme then [] else codes ":" ++ decimal port

-- RFC 6454 6.2
abbrev pub origin_text : Origin → List ℕ
origin_text o = scheme_text o.scheme ++ host_text o.host ++ port_text o.scheme o.port
