-- What the test of keys says: a key passes with itself, two that pass are one, and the code's comparison is this test.
use Rattle.std.proofs.Common.{◌≡◌, ◌↔◌, true, ◌&&◌, nat_eq, Option, Some, None, refl, ap, rules}
use Rattle.std.specs.Option.{option_eq}
use Rattle.std.specs.Cmp.Lexicographic.{pointwise}
use Rattle.origin_values.specs.Equality.{host_eq}
use Rattle.origin_values.specs.declared.host.Host.{Host}
use Rattle.origin_values.specs.contracts.host.HostPartialEq.TheImpl as hosts
use Rattle.origin_values.proofs.Equal.{same_host}
use Rattle.altsvc_grammar.specs.Keys.{key_eq}
use Rattle.altsvc_grammar.specs.declared.alt_key.AltKey.{AltKey}
use Rattle.altsvc_grammar.specs.contracts.alt_key.AltKeyPartialEq.TheImpl as keys

pub one_key : (a b : AltKey) → (key_eq a b ≡ true) ↔ (a ≡ b)
one_key a b = search rules

pub key_self : (key : AltKey) → key_eq key key ≡ true
key_self key = (one_key key key).1 refl

same_optional : (a b : Option Host) → option_eq (hosts.eq-value).it a b ≡ option_eq host_eq a b
same_optional None None = refl
same_optional None (Some b) = refl
same_optional (Some a) None = refl
same_optional (Some a) (Some b) = same_host a b

-- the code's comparison
pub same_key : (a b : AltKey) → (keys.eq-value).it a b ≡ key_eq a b
same_key a b = ap (λ t. pointwise nat_eq a.proto b.proto && (t && nat_eq a.port b.port)) (same_optional a.host b.host)
