-- Which records a client can use (RFC 9460 7.1 and 8), and with which protocols.
use Rattle.std.specs.Prelude.{ℕ, Bool, true, false, ◌&&◌, ◌||◌, not, nat_eq, List, codes}
use Rattle.std.specs.List.{list_any, list_all}
use Rattle.std.specs.Cmp.Lexicographic.{pointwise}
use Rattle.origin_values.specs.declared.protos.Protos.{Protos}
use Rattle.svcb_wire.specs.declared.param.Param.{Param}
use Rattle.svcb_wire.specs.declared.param.Param.TheVariants.{Mandatory, Alpn, NoDefaultAlpn, Port, V4Hint, Other, V6Hint}
use Rattle.svcb_wire.specs.declared.svcb.Svcb.{Svcb}
use Rattle.svcb_wire.specs.Octets.{key_of}

abbrev pub has_key : ℕ → List Param → Bool
has_key key params = list_any (λ param. nat_eq (key_of param) key) params

-- RFC 9460 8 and 7.1.1: what mandatory lists is present, and no-default-alpn stands beside alpn
abbrev pub stands_among : List Param → Param → Bool
stands_among params (Mandatory keys) = list_all (λ key. has_key key params) keys
stands_among params NoDefaultAlpn = has_key 1 params
stands_among params (Alpn ids) = true
stands_among params (Port port) = true
stands_among params (V4Hint addresses) = true
stands_among params (Other key value) = true
stands_among params (V6Hint addresses) = true

abbrev pub is_consistent : Svcb → Bool
is_consistent value = list_all (stands_among value.params) value.params

-- whether a parameter lists this protocol id
abbrev pub names_id : List ℕ → Param → Bool
names_id id (Alpn ids) = list_any (λ one. pointwise nat_eq one id) ids
names_id id (Mandatory keys) = false
names_id id NoDefaultAlpn = false
names_id id (Port port) = false
names_id id (V4Hint addresses) = false
names_id id (Other key value) = false
names_id id (V6Hint addresses) = false

abbrev pub has_id : List ℕ → List Param → Bool
has_id id params = list_any (names_id id) params

-- RFC 9460 7.1.2: the supported protocols among the ids, and HTTP/1.1 by default
abbrev pub protos_of : Protos → List Param → Protos
protos_of supported params = record {
  h2 = supported.h2 && has_id (codes "h2") params;
  h3 = supported.h3 && has_id (codes "h3") params;
  http11 = (supported.http11 && has_id (codes "http/1.1") params) || not (has_key 2 params);
}

abbrev pub is_some_proto : Protos → Bool
is_some_proto protos = protos.h2 || (protos.h3 || protos.http11)

-- the keys that a client of this project knows and that may be mandatory
abbrev pub is_known_key : ℕ → Bool
is_known_key key = nat_eq key 1 || (nat_eq key 2 || (nat_eq key 3 || (nat_eq key 4 || nat_eq key 6)))

abbrev pub is_usable : Param → Bool
is_usable (Mandatory keys) = list_all is_known_key keys
is_usable (Port port) = not (nat_eq port 0)
is_usable (Alpn ids) = true
is_usable NoDefaultAlpn = true
is_usable (V4Hint addresses) = true
is_usable (Other key value) = true
is_usable (V6Hint addresses) = true

-- RFC 9460 8: mandatory lists known keys alone; the port isn't 0, and some protocol is left
abbrev pub is_compatible : Protos → Svcb → Bool
is_compatible supported value = list_all is_usable value.params && is_some_proto (protos_of supported value.params)
