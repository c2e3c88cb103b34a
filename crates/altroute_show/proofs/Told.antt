-- What devices that tell their bytes say of a turn: nothing taken, nothing written, the end, a front of a text.
use Rattle.std.proofs.Common.{◌≡◌, ℕ, ◌+◌, ◌<◌, suc, Bool, true, false, ◌||◌, ◌&&◌, nat_eq, nat_lt, List, [], ◌∷◌, ◌++◌, length, take, Option, Ok, refl, ap, sym, ◌∙◌, arith}
use Rattle.alt_base.specs.Devices.{Grew, with_front, answers_end, Took-nil, with_end-nil}

-- nothing is written
pub grew_nothing : (told : Option (List ℕ)) → Grew told told []
grew_nothing told = sym (with_end-nil told)

-- nothing is taken
pub nothing_taken : (a : Option (List ℕ)) → with_front [] a ≡ a
nothing_taken a = sym (Took-nil a)

-- a read that answered 0 for a buffer that isn't empty
pub answered : (before now : Bool) (n room : ℕ) → n ≡ 0 → 0 < room → now ≡ (before || answers_end {E = ℕ} (Ok n) room) → now ≡ true
answered before now n room none some is = is ∙ ap (λ b. before || b) all ∙ or_true before
  where
    all : (nat_eq n 0 && nat_lt 0 room) ≡ true
    all = grind arith

    or_true : (b : Bool) → (b || true) ≡ true
    or_true true = refl
    or_true false = refl

-- a front of what follows is a front of the whole
pub take_longer : (a b : List ℕ) (n : ℕ) → a ++ take n b ≡ take (length a + n) (a ++ b)
take_longer [] b n = ap (λ m. take m b) (zero_plus n)
  where
    zero_plus : (m : ℕ) → m ≡ 0 + m
    zero_plus m = omega arith
take_longer (x ∷ a) b n = ap (λ xs. x ∷ xs) (take_longer a b n) ∙ ap (λ m. take m (x ∷ (a ++ b))) (suc_plus (length a) n)
  where
    suc_plus : (m k : ℕ) → suc (m + k) ≡ suc m + k
    suc_plus m k = omega arith

pub front_of : (text more all : List ℕ) (n : ℕ) → all ≡ text ++ more → text ++ take n more ≡ take (length text + n) all
front_of text more all n whole = take_longer text more n ∙ ap (take (length text + n)) (sym whole)
