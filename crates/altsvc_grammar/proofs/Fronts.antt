-- What the tests of the first byte say.
use Rattle.std.proofs.Common.{◌≡◌, ◌≢◌, ℕ, Bool, true, false, List, [], ◌∷◌, refl, ap}
use Rattle.alt_base.proofs.Numbers.{eq_self, true_eq}
use Rattle.alt_base.proofs.Booleans.{contradicts}
use Rattle.field_text.specs.Runs.{BeginsIn}
use Rattle.altsvc_grammar.specs.Steps.{begins_with}

pub true_front : (byte : ℕ) (x : List ℕ) → begins_with byte x ≡ true → (more : List ℕ) × (x ≡ byte ∷ more)
true_front byte [] h = cc
true_front byte (b ∷ bs) h = (bs, ap (λ c. c ∷ bs) (true_eq b byte h))

pub false_front : (byte : ℕ) (x : List ℕ) → begins_with byte x ≡ false → (more : List ℕ) → x ≢ byte ∷ more
false_front byte x h more e = contradicts (begins_with byte x) (stands e) h
  where
    stands : x ≡ byte ∷ more → begins_with byte x ≡ true
    stands e = rw e (eq_self byte)

pub front_false : (byte : ℕ) (x : List ℕ) → ((more : List ℕ) → x ≢ byte ∷ more) → begins_with byte x ≡ false
front_false byte x none = go (begins_with byte x) refl
  where
    go : (t : Bool) → begins_with byte x ≡ t → t ≡ false
    go true is = let e = true_front byte x is in absurd (none e.0 e.1)
    go false is = refl

pub not_begun : (class : ℕ → Bool) (b : ℕ) (bs : List ℕ) → (BeginsIn class (b ∷ bs) → ⊥) → class b ≡ false
not_begun class b bs h = go (class b) refl
  where
    go : (t : Bool) → class b ≡ t → t ≡ false
    go true is = absurd (h is)
    go false is = refl
