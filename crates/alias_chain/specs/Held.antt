-- An answer, and for how long it is in force (RFC 1035 3.2.1).
use Rattle.std.specs.Prelude.{ℕ, ◌-◌, Bool, nat_lt, Option, None, Some, if◌then◌else◌}
use Rattle.alias_chain.specs.declared.held.Held.{Held}

module _ {B : Type 0} where
  abbrev pub held_at : ℕ → ℕ → B → Held B
  held_at now ttl body = record { moment = now; ttl = ttl; body = body }

  -- fewer seconds than its TTL have gone since its moment
  abbrev pub is_in_force : ℕ → Held B → Bool
  is_in_force now h = nat_lt (now - h.moment) h.ttl

  -- what of a name's is in force
  abbrev pub in_force : ℕ → Option (Held B) → Option (Held B)
  in_force now None = None
  in_force now (Some h) = if is_in_force now h then Some h else None

  -- what the answer in force brought
  abbrev pub body_at : ℕ → Option (Held B) → Option B
  body_at now None = None
  body_at now (Some h) = if is_in_force now h then Some h.body else None
