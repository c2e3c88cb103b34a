-- What a grammar owes each text: exactly one value or exactly one refusal, and never both.
use Rattle.std.specs.Prelude.{◌≡◌, ◌⊎◌, ℕ}

-- `Spells v` says that the text spells v, and `RefusedAt q r` that it is refused at place q for the reason r
pub record OneReading (V R : Type 0) (Spells : V → Type 0) (RefusedAt : ℕ → R → Type 0) : Type 0 where
  pub some : ((v : V) × Spells v) ⊎ ((q : ℕ) × (r : R) × RefusedAt q r)
  pub one_value : (v w : V) → Spells v → Spells w → v ≡ w
  pub one_refusal : (q q' : ℕ) (r r' : R) → RefusedAt q r → RefusedAt q' r' → (q ≡ q') × (r ≡ r')
  pub not_both : (v : V) (q : ℕ) (r : R) → Spells v → RefusedAt q r → ⊥
