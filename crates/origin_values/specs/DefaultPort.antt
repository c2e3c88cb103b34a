-- The default ports of the schemes (RFC 9110 4.2.1 and 4.2.2).
use Rattle.std.specs.Prelude.{ℕ}
use Rattle.origin_values.specs.declared.scheme.Scheme.{Scheme}
use Rattle.origin_values.specs.declared.scheme.Scheme.TheVariants.{Http, Https}

abbrev pub default_port_of : Scheme → ℕ
default_port_of Http = 80
default_port_of Https = 443
