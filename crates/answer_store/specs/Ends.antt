-- When a held answer ends.
use Rattle.std.specs.Prelude.{ℕ, ◌+◌, Bool, false, true, not, nat_lt, nat_eq, Option, None, Some}
use Rattle.alias_chain.specs.declared.held.Held.{Held}

module _ {B : Type 0} where
  -- the moment at which it is in force no more
  abbrev pub end_of : Held B → ℕ
  end_of h = h.moment + h.ttl

  -- a name's ends at this moment
  abbrev pub ends_at : ℕ → Option (Held B) → Bool
  ends_at end None = false
  ends_at end (Some h) = nat_eq (end_of h) end

  -- a name's came at a moment or before it
  abbrev pub is_taken_by : ℕ → Option (Held B) → Bool
  is_taken_by newest None = true
  is_taken_by newest (Some h) = not (nat_lt newest h.moment)
