-- Pieces appended one after the other: four, or five pairs.
use Rattle.std.proofs.Common.{◌≡◌, ℕ, List, ◌++◌, Result, Ok, Err, append_assoc, ap, ◌∙◌}
use Rattle.std.specs.Result.{OnOk}
use Rattle.alt_base.specs.declared.refusal.NoMemory.{NoMemory}

pub four_pieces : (r : Result (Unit {0}) NoMemory) (l l1 l2 l3 l4 a b c d b' d' : List ℕ) → l1 ≡ l ++ a → l2 ≡ l1 ++ b' → b' ≡ b → l3 ≡ l2 ++ c → OnOk r (l4 ≡ l3 ++ d') → d' ≡ d
    → OnOk r (l4 ≡ l ++ (((a ++ b) ++ c) ++ d))
four_pieces (Ok w) l l1 l2 l3 l4 a b c d b' d' p q q' s t t' =
    t ∙ ap (λ x. l3 ++ x) t' ∙ ap (λ x. x ++ d) (s ∙ ap (λ x. x ++ c) (q ∙ ap (λ x. l1 ++ x) q' ∙ ap (λ x. x ++ b) p)) ∙ simp append_assoc
four_pieces (Err e) l l1 l2 l3 l4 a b c d b' d' p q q' s t t' = t

pub five_pairs : (r : Result (Unit {0}) NoMemory) (l l1 l2 l3 l4 l5 a a' b b' c c' d d' e e' : List ℕ) → l1 ≡ l ++ (a ++ a') → l2 ≡ l1 ++ (b ++ b') → l3 ≡ l2 ++ (c ++ c') → l4 ≡ l3 ++ (d ++ d') → OnOk r (l5 ≡ l4 ++ (e ++ e'))
    → OnOk r (l5 ≡ l ++ (((((((((a ++ a') ++ b) ++ b') ++ c) ++ c') ++ d) ++ d') ++ e) ++ e'))
five_pairs (Ok w) l l1 l2 l3 l4 l5 a a' b b' c c' d d' e e' p q s t u =
    u ∙ ap (λ x. x ++ (e ++ e')) (t ∙ ap (λ x. x ++ (d ++ d')) (s ∙ ap (λ x. x ++ (c ++ c')) (q ∙ ap (λ x. x ++ (b ++ b')) p))) ∙ simp append_assoc
five_pairs (Err w) l l1 l2 l3 l4 l5 a a' b b' c c' d d' e e' p q s t u = u
