-- When two alternatives have one key, as a test.
use Rattle.std.specs.Prelude.{Bool, ◌&&◌, nat_eq}
use Rattle.std.specs.Option.{option_eq}
use Rattle.std.specs.Cmp.Lexicographic.{pointwise}
use Rattle.origin_values.specs.Equality.{host_eq}
use Rattle.altsvc_grammar.specs.declared.alt_key.AltKey.{AltKey}

-- the protocol, the host and the port are one
abbrev pub key_eq : AltKey → AltKey → Bool
key_eq a b = pointwise nat_eq a.proto b.proto && (option_eq host_eq a.host b.host && nat_eq a.port b.port)
