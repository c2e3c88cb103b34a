-- Lists of bytes.
use Rattle.std.proofs.Common.{ℕ, zero, suc, List, [], ◌∷◌, ◌++◌, take, drop, get_or, arith, Fits, w8}
use Rattle.dns_names.specs.Names.{AreBytes}

pub bytes_of : (xs : List ℕ) → ((i : ℕ) → Fits w8 (get_or xs i 0)) → AreBytes xs
bytes_of [] h = tt
bytes_of (b ∷ bs) h = (omega (arith, h 0), bytes_of bs (λ i. h (suc i)))

pub bytes_drop : (n : ℕ) (xs : List ℕ) → AreBytes xs → AreBytes (drop n xs)
bytes_drop zero xs h = h
bytes_drop (suc n) [] h = tt
bytes_drop (suc n) (b ∷ bs) h = bytes_drop n bs h.1

pub bytes_take : (n : ℕ) (xs : List ℕ) → AreBytes xs → AreBytes (take n xs)
bytes_take zero xs h = tt
bytes_take (suc n) [] h = tt
bytes_take (suc n) (b ∷ bs) h = (h.0, bytes_take n bs h.1)

pub bytes_front : (xs ys : List ℕ) → AreBytes (xs ++ ys) → AreBytes xs
bytes_front [] ys h = tt
bytes_front (b ∷ bs) ys h = (h.0, bytes_front bs ys h.1)

pub bytes_back : (xs ys : List ℕ) → AreBytes (xs ++ ys) → AreBytes ys
bytes_back [] ys h = h
bytes_back (b ∷ bs) ys h = bytes_back bs ys h.1

pub bytes_both : (xs ys : List ℕ) → AreBytes xs → AreBytes ys → AreBytes (xs ++ ys)
bytes_both [] ys h k = k
bytes_both (b ∷ bs) ys h k = (h.0, bytes_both bs ys h.1 k)
