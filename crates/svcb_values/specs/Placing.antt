-- How the reading keeps keys, and what has keys, in rising order.
use Rattle.std.specs.Prelude.{ℕ, nat_lt, if◌then◌else◌, List, [], ◌∷◌}

-- an item among items of rising keys, before the first whose key is above its own
abbrev pub placed_by : {A : Type 0} → (A → ℕ) → A → List A → List A
placed_by key item [] = item ∷ []
placed_by key item (other ∷ items) = if nat_lt (key item) (key other) then item ∷ other ∷ items else other ∷ placed_by key item items

abbrev pub placed_key : ℕ → List ℕ → List ℕ
placed_key key keys = placed_by (λ k. k) key keys
