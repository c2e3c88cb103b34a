-- Runs of bytes of one class in front of a text.
use Rattle.std.specs.Prelude.{◌≡◌, ℕ, Bool, true, List, [], ◌∷◌, ◌++◌, if◌then◌else◌}

abbrev pub AllIn : (ℕ → Bool) → List ℕ → Type 0
AllIn class [] = Unit {0}
AllIn class (b ∷ bs) = (class b ≡ true) × AllIn class bs

abbrev pub BeginsIn : (ℕ → Bool) → List ℕ → Type 0
BeginsIn class [] = ⊥
BeginsIn class (b ∷ bs) = class b ≡ true

-- the text is a run of the class, as long as can be, and a rest
pub record IsLongestRun (class : ℕ → Bool) (x run rest : List ℕ) : Type 0 where
  pub text : x ≡ run ++ rest
  pub valid : AllIn class run
  pub longest : BeginsIn class rest → ⊥

-- the run in front
abbrev pub run_of : (ℕ → Bool) → List ℕ → List ℕ
run_of class [] = []
run_of class (b ∷ bs) = if class b then b ∷ run_of class bs else []

-- the rest behind it
abbrev pub after_run : (ℕ → Bool) → List ℕ → List ℕ
after_run class [] = []
after_run class (b ∷ bs) = if class b then after_run class bs else b ∷ bs
