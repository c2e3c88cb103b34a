-- What the tests of schemes, hosts and origins say: a value passes with itself, two that pass are one, and the code's
-- comparisons are these tests.
use Rattle.std.proofs.Common.{◌≡◌, ◌↔◌, ℕ, true, ◌&&◌, nat_eq, refl, ap, sym, subst}
use Rattle.alt_base.proofs.Numbers.{eq_self, true_eq}
use Rattle.alt_base.proofs.Booleans.{first_of_both, second_of_both, one_truth}
use Rattle.alt_base.proofs.Lists.{text_self, true_text}
use Rattle.origin_values.specs.declared.scheme.Scheme.{Scheme}
use Rattle.origin_values.specs.declared.scheme.Scheme.TheVariants.{Http, Https}
use Rattle.origin_values.specs.declared.host.Host.{Host}
use Rattle.origin_values.specs.declared.host.Host.TheVariants.{Name, V4, V6}
use Rattle.origin_values.specs.declared.origin.Origin.{Origin}
use Rattle.origin_values.specs.Equality.{scheme_eq, host_eq, origin_eq}
use Rattle.origin_values.specs.contracts.scheme.SchemePartialEq.TheImpl as schemes
use Rattle.origin_values.specs.contracts.host.HostPartialEq.TheImpl as hosts
use Rattle.origin_values.specs.contracts.origin.OriginPartialEq.TheImpl as origins

pub scheme_self : (s : Scheme) → scheme_eq s s ≡ true
scheme_self Http = refl
scheme_self Https = refl

pub true_scheme : (a b : Scheme) → scheme_eq a b ≡ true → a ≡ b
true_scheme Http Http h = refl
true_scheme Https Https h = refl
true_scheme Http Https h = cc
true_scheme Https Http h = cc

pub host_self : (h : Host) → host_eq h h ≡ true
host_self (Name name) = text_self name
host_self (V4 bytes) = text_self bytes
host_self (V6 bytes) = text_self bytes

pub true_host : (a b : Host) → host_eq a b ≡ true → a ≡ b
true_host (Name a) (Name b) h = ap Name (true_text a b h)
true_host (V4 a) (V4 b) h = ap V4 (true_text a b h)
true_host (V6 a) (V6 b) h = ap V6 (true_text a b h)
true_host (Name a) (V4 b) h = cc
true_host (Name a) (V6 b) h = cc
true_host (V4 a) (Name b) h = cc
true_host (V4 a) (V6 b) h = cc
true_host (V6 a) (Name b) h = cc
true_host (V6 a) (V4 b) h = cc

pub origin_self : (o : Origin) → origin_eq o o ≡ true
origin_self o = rw (scheme_self o.scheme, host_self o.host, eq_self o.port) refl

pub true_origin : (a b : Origin) → origin_eq a b ≡ true → a ≡ b
true_origin a b h =
    let rest = second_of_both (scheme_eq a.scheme b.scheme) (host_eq a.host b.host && nat_eq a.port b.port) h in
    let schemes = true_scheme a.scheme b.scheme (first_of_both (scheme_eq a.scheme b.scheme) (host_eq a.host b.host && nat_eq a.port b.port) h) in
    let hosts = true_host a.host b.host (first_of_both (host_eq a.host b.host) (nat_eq a.port b.port) rest) in
    let ports = true_eq a.port b.port (second_of_both (host_eq a.host b.host) (nat_eq a.port b.port) rest) in
    of_parts a.scheme b.scheme a.host b.host a.port b.port schemes hosts ports
  where
    of_parts : (s t : Scheme) (h k : Host) (m n : ℕ) → s ≡ t → h ≡ k → m ≡ n → (let x : Origin = record { scheme = s; host = h; port = m } in let y : Origin = record { scheme = t; host = k; port = n } in x ≡ y)
    of_parts s t h k m n e f g = rw (e, f, g) refl

pub one_origin : (a b : Origin) → (origin_eq a b ≡ true) ↔ (a ≡ b)
one_origin a b = (true_origin a b, λ e. subst (λ x. origin_eq a x ≡ true) e (origin_self a))

-- the test may be turned
pub turned_origin : (a b : Origin) → origin_eq a b ≡ origin_eq b a
turned_origin a b = one_truth (origin_eq a b) (origin_eq b a) (turned a b) (turned b a)
  where
    turned : (a b : Origin) → origin_eq a b ≡ true → origin_eq b a ≡ true
    turned a b h = (one_origin b a).1 (sym (true_origin a b h))

-- the code's comparisons

pub same_scheme : (a b : Scheme) → (schemes.eq-value).it a b ≡ scheme_eq a b
same_scheme Http Http = refl
same_scheme Http Https = refl
same_scheme Https Http = refl
same_scheme Https Https = refl

pub same_host : (a b : Host) → (hosts.eq-value).it a b ≡ host_eq a b
same_host (Name a) (Name b) = refl
same_host (Name a) (V4 b) = refl
same_host (Name a) (V6 b) = refl
same_host (V4 a) (Name b) = refl
same_host (V4 a) (V4 b) = refl
same_host (V4 a) (V6 b) = refl
same_host (V6 a) (Name b) = refl
same_host (V6 a) (V4 b) = refl
same_host (V6 a) (V6 b) = refl

pub same_origin : (origins.eq-value).it ≡ origin_eq
same_origin = λ i a b. same_scheme a.scheme b.scheme i && (same_host a.host b.host i && nat_eq a.port b.port)
