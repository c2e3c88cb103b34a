-- The steps of reading a protocol.
use Rattle.std.proofs.Common.{◌≡◌, ℕ, ◌+◌, ◌<◌, false, List, ◌∷◌, length, drop, get_or, arith, subst, refl, add-one}
use Rattle.std.proofs.Math.Seq.{drop-cons}
use Rattle.altsvc_grammar.specs.ProtocolReading.{is_bad_percent, bad_percent}

-- no bad `%` stands here
pub percent_passed : (p i : ℕ) (x : List ℕ) → i < length x → is_bad_percent (drop i x) ≡ false → bad_percent (p + (i + 1)) (drop (i + 1) x) ≡ bad_percent (p + i) (drop i x)
percent_passed p i x inside good =
    let split : drop i x ≡ get_or x i 0 ∷ drop (i + 1) x = rw add-one (drop-cons x i 0 inside) in
    let here : is_bad_percent (get_or x i 0 ∷ drop (i + 1) x) ≡ false = subst (λ xs. is_bad_percent xs ≡ false) split good in
    let n : p + (i + 1) ≡ p + i + 1 = omega arith in
    rw (split, here, n) refl
