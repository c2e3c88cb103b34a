-- An order of origins: by their ports, then by their schemes, then by their hosts.
use Rattle.std.specs.Prelude.{ℕ, List, ◌∷◌}
use Rattle.std.specs.Cmp.Lexicographic.{slice_cmp}
use Rattle.std.specs.declared.cmp.Ordering.{Ordering}
use Rattle.std.specs.Ordering.{nat_cmp}
use Rattle.origin_values.specs.declared.scheme.Scheme.{Scheme}
use Rattle.origin_values.specs.declared.scheme.Scheme.TheVariants.{Http, Https}
use Rattle.origin_values.specs.declared.host.Host.{Host}
use Rattle.origin_values.specs.declared.host.Host.TheVariants.{Name, V4, V6}
use Rattle.origin_values.specs.declared.origin.Origin.{Origin}

abbrev pub scheme_rank : Scheme → ℕ
scheme_rank Http = 0
scheme_rank Https = 1

abbrev pub host_rank : Host → ℕ
host_rank (Name name) = 0
host_rank (V4 bytes) = 1
host_rank (V6 bytes) = 2

abbrev pub host_bytes : Host → List ℕ
host_bytes (Name name) = name
host_bytes (V4 bytes) = bytes
host_bytes (V6 bytes) = bytes

-- the numbers by which an origin is ordered, the first that differ deciding
abbrev pub order_key : Origin → List ℕ
order_key o = o.port ∷ scheme_rank o.scheme ∷ host_rank o.host ∷ host_bytes o.host

abbrev pub origin_cmp : Origin → Origin → Ordering
origin_cmp a b = slice_cmp nat_cmp (order_key a) (order_key b)
