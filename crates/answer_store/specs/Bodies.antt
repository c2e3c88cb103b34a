-- The kinds of answers, and what an answer of each kind brings.
use Rattle.std.specs.Prelude.{ℕ, Bool, true, false, nat_eq, List, Option, None, Some}
use Rattle.std.specs.List.{list_any}
use Rattle.std.specs.Cmp.Lexicographic.{pointwise}
use Rattle.origin_values.specs.declared.address.Addr.{Addr}
use Rattle.origin_values.specs.declared.address.Addr.TheVariants.{V4, V6}
use Rattle.svcb_wire.specs.declared.svcb.Svcb.{Svcb}
use Rattle.alias_chain.specs.declared.held.Held.{Held}
use Rattle.alias_chain.specs.Held.{held_at}

-- addresses of IPv4 (RFC 1035 3.4.1), of IPv6 (RFC 3596 2.2), and HTTPS records (RFC 9460 9)
pub data Kind : Type 0 where
  A : Kind
  Aaaa : Kind
  Https : Kind

pub data Body : Type 0 where
  Addresses4 : List (List ℕ) → Body
  Addresses6 : List (List ℕ) → Body
  Records : List Svcb → Body

abbrev pub kind_eq : Kind → Kind → Bool
kind_eq A A = true
kind_eq Aaaa Aaaa = true
kind_eq Https Https = true
kind_eq A Aaaa = false
kind_eq A Https = false
kind_eq Aaaa A = false
kind_eq Aaaa Https = false
kind_eq Https A = false
kind_eq Https Aaaa = false

-- an answer of one kind as an answer of any
abbrev pub of_kind : {B : Type 0} → (B → Body) → Option (Held B) → Option (Held Body)
of_kind body None = None
of_kind body (Some h) = Some (held_at h.moment h.ttl (body h.body))

-- the kind of answer that lists an address
abbrev pub kind_of : Addr → Kind
kind_of (V4 address) = A
kind_of (V6 address) = Aaaa

abbrev pub lists_address : Addr → Option Body → Bool
lists_address (V4 address) (Some (Addresses4 all)) = list_any (pointwise nat_eq address) all
lists_address (V6 address) (Some (Addresses6 all)) = list_any (pointwise nat_eq address) all
lists_address addr body = false
