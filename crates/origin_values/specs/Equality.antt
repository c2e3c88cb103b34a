-- When two schemes, protocols, addresses, hosts or origins are one, as tests.
use Rattle.std.specs.Prelude.{Bool, true, false, ◌&&◌, nat_eq}
use Rattle.std.specs.Cmp.Lexicographic.{pointwise}
use Rattle.origin_values.specs.declared.scheme.Scheme.{Scheme}
use Rattle.origin_values.specs.declared.scheme.Scheme.TheVariants.{Http, Https}
use Rattle.origin_values.specs.declared.proto.Proto.{Proto}
use Rattle.origin_values.specs.declared.proto.Proto.TheVariants.{H2, H3, Http11, Other}
use Rattle.origin_values.specs.declared.address.Addr.{Addr}
use Rattle.origin_values.specs.declared.address.Addr.TheVariants as address
use Rattle.origin_values.specs.declared.host.Host.{Host}
use Rattle.origin_values.specs.declared.host.Host.TheVariants.{Name, V4, V6}
use Rattle.origin_values.specs.declared.origin.Origin.{Origin}

abbrev pub scheme_eq : Scheme → Scheme → Bool
scheme_eq Http Http = true
scheme_eq Https Https = true
scheme_eq Http Https = false
scheme_eq Https Http = false

abbrev pub proto_eq : Proto → Proto → Bool
proto_eq H2 H2 = true
proto_eq H3 H3 = true
proto_eq Http11 Http11 = true
proto_eq Other Other = true
proto_eq _ _ = false

abbrev pub addr_eq : Addr → Addr → Bool
addr_eq (address.V4 a) (address.V4 b) = pointwise nat_eq a b
addr_eq (address.V6 a) (address.V6 b) = pointwise nat_eq a b
addr_eq (address.V4 a) (address.V6 b) = false
addr_eq (address.V6 a) (address.V4 b) = false

abbrev pub host_eq : Host → Host → Bool
host_eq (Name a) (Name b) = pointwise nat_eq a b
host_eq (V4 a) (V4 b) = pointwise nat_eq a b
host_eq (V6 a) (V6 b) = pointwise nat_eq a b
host_eq _ _ = false

-- the scheme, the host and the port are one
abbrev pub origin_eq : Origin → Origin → Bool
origin_eq a b = scheme_eq a.scheme b.scheme && (host_eq a.host b.host && nat_eq a.port b.port)
