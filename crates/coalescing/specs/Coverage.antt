-- When the names of a certificate cover a host, in the words of RFC 9525 6.3 and RFC 9110 4.3.5.
use Rattle.std.specs.Prelude.{◌≡◌, ◌≢◌, ℕ, List, [], ◌∷◌, ◌++◌}
use Rattle.std.specs.List.{Any}
use Rattle.origin_values.specs.declared.address.Addr.TheVariants.{V4 as IpV4, V6 as IpV6}
use Rattle.origin_values.specs.declared.host.Host.{Host}
use Rattle.origin_values.specs.declared.host.Host.TheVariants.{Name, V4, V6}
use Rattle.coalescing.specs.declared.cert_name.CertName.{CertName}
use Rattle.coalescing.specs.declared.cert_name.CertName.TheVariants.{Exact, Wild, Ip}

-- one label, which isn't empty and holds no dot, a dot and the base
pub record IsLabelBefore (name base : List ℕ) : Type 0 where
  pub label : List ℕ
  pub some : label ≢ []
  pub no_dot : (front back : List ℕ) → label ≡ front ++ 46 ∷ back → ⊥
  pub spelled : name ≡ label ++ 46 ∷ base

-- a name covers the host of the same name, a wildcard each host whose name is one label before its base, and an address
-- the host of the same address
abbrev pub CoversHost : CertName → Host → Type 0
CoversHost (Exact exact) host = host ≡ Name exact
CoversHost (Wild base) host = (name : List ℕ) × (host ≡ Name name) × IsLabelBefore name base
CoversHost (Ip (IpV4 bytes)) host = host ≡ V4 bytes
CoversHost (Ip (IpV6 bytes)) host = host ≡ V6 bytes

-- one of the names covers the host
abbrev pub CoverHost : List CertName → Host → Type 0
CoverHost names host = Any (λ name. CoversHost name host) names
