-- Which hosts the names of a certificate cover (RFC 9525 6.3; RFC 9110 4.3.4 and 4.3.5).
use Rattle.std.specs.Prelude.{ℕ, List, [], ◌∷◌, Bool, false, not, ◌&&◌, nat_eq, if◌then◌else◌}
use Rattle.std.specs.Cmp.Lexicographic.{pointwise}
use Rattle.std.specs.List.{list_any}
use Rattle.origin_values.specs.declared.address.Addr.TheVariants.{V4 as IpV4, V6 as IpV6}
use Rattle.origin_values.specs.declared.host.Host.{Host}
use Rattle.origin_values.specs.declared.host.Host.TheVariants.{Name, V4, V6}
use Rattle.coalescing.specs.declared.cert_name.CertName.{CertName}
use Rattle.coalescing.specs.declared.cert_name.CertName.TheVariants.{Exact, Wild, Ip}

-- the base is what stands behind the first dot of a text
abbrev pub behind_dot : List ℕ → List ℕ → Bool
behind_dot [] base = false
behind_dot (b ∷ bs) base = if nat_eq b 46 then pointwise nat_eq bs base else behind_dot bs base

-- a text is one label, which isn't empty, a dot and the base
abbrev pub adds_one_label : List ℕ → List ℕ → Bool
adds_one_label [] base = false
adds_one_label (b ∷ bs) base = not (nat_eq b 46) && behind_dot bs base

-- a name covers a host: it is the host, or a wildcard to whose base the host adds one label
abbrev pub covers_host : CertName → Host → Bool
covers_host (Exact name) (Name host) = pointwise nat_eq name host
covers_host (Wild base) (Name host) = adds_one_label host base
covers_host (Ip (IpV4 ours)) (V4 theirs) = pointwise nat_eq ours theirs
covers_host (Ip (IpV6 ours)) (V6 theirs) = pointwise nat_eq ours theirs
covers_host _ _ = false

-- one of the names covers the host
abbrev pub covers : List CertName → Host → Bool
covers names host = list_any (λ name. covers_host name host) names
