-- Runs of zero groups in an IPv6 address.
use Rattle.std.specs.Prelude.{◌≡◌, ℕ, ◌+◌, ◌≤◌, List, length, take, drop, replicate}

-- this many zero groups lie at this place
pub record AreZeros (groups : List ℕ) (start count : ℕ) : Type 0 where
  pub within : start + count ≤ length groups
  pub zeros : take count (drop start groups) ≡ replicate count 0
