-- When a kept alternative ends.
use Rattle.std.specs.Prelude.{ℕ, ◌+◌, ◌-◌, Bool, not, nat_lt, nat_eq, if◌then◌else◌}
use Rattle.network_cache.specs.declared.kept.Kept.{Kept}

-- the moment at which it is fresh no more, 0 where it never is
abbrev pub end_of : Kept → ℕ
end_of k = if nat_lt k.age k.alt.ma then k.moment + (k.alt.ma - k.age) else 0

abbrev pub ends_at : ℕ → Kept → Bool
ends_at end k = nat_eq (end_of k) end

abbrev pub ends_elsewhere : ℕ → Kept → Bool
ends_elsewhere end k = not (nat_eq (end_of k) end)
