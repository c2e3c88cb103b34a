-- Texts without a byte, and the parts around its first place.
use Rattle.std.proofs.Common.{◌≡◌, ℕ, Bool, true, false, nat_eq, List, [], ◌∷◌, ◌++◌, refl, ap, sym, ◌∙◌}
use Rattle.alt_base.proofs.Numbers.{true_eq, eq_true}

-- the byte stands nowhere in the text
abbrev pub Without : ℕ → List ℕ → Type 0
Without c text = (front back : List ℕ) → text ≡ front ++ c ∷ back → ⊥

pub false_true : false ≡ true → ⊥
false_true e = cc

pub without_nil : (c : ℕ) → Without c []
without_nil c [] back e = cc
without_nil c (x ∷ front) back e = cc

pub without_cons : (c b : ℕ) (text : List ℕ) → nat_eq b c ≡ false → Without c text → Without c (b ∷ text)
without_cons c b text other h [] back e = let same : b ≡ c = cc in false_true (sym other ∙ eq_true b c same)
without_cons c b text other h (x ∷ front) back e = let rest : text ≡ front ++ c ∷ back = cc in h front back rest

pub without_tail : (c b : ℕ) (text : List ℕ) → Without c (b ∷ text) → Without c text
without_tail c b text h front back e = h (b ∷ front) back (ap (λ xs. b ∷ xs) e)

pub without_head : (c b : ℕ) (text : List ℕ) → Without c (b ∷ text) → nat_eq b c ≡ false
without_head c b text h = go (nat_eq b c) refl
  where
    go : (t : Bool) → nat_eq b c ≡ t → t ≡ false
    go false is = refl
    go true is = absurd (h [] text (ap (λ x. x ∷ text) (true_eq b c is)))
