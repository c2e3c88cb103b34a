-- Bytes as lines, a few more bytes at a time.
use Rattle.std.proofs.Common.{◌≡◌, ℕ, Bool, true, false, cond, nat_eq, List, [], ◌∷◌, ◌++◌, refl, ap, sym, ◌∙◌, append_assoc, append-nil, arith}
use Rattle.altroute_program.specs.Lines.{Cut, cut_on, cut_from, cut_lines, joined, lines_of, is_empty_bytes}
use Rattle.altroute_program.specs.Outcome.{Progress, act, act_all}

pub cut_from-append : (c : Cut) (xs ys : List ℕ) → cut_from c (xs ++ ys) ≡ cut_from (cut_from c xs) ys
cut_from-append c [] ys = refl
cut_from-append c (x ∷ xs) ys = cut_from-append (cut_on c x) xs ys

pub cut-push : (bytes : List ℕ) (b : ℕ) → cut_lines (bytes ++ b ∷ []) ≡ cut_on (cut_lines bytes) b
cut-push bytes b = cut_from-append _ bytes (b ∷ [])

pub act_all-append : (p : Progress) (xs ys : List (List ℕ)) → act_all p (xs ++ ys) ≡ act_all (act_all p xs) ys
act_all-append p [] ys = refl
act_all-append p (x ∷ xs) ys = act_all-append (act p x) xs ys

on_more : (c : Cut) (b : ℕ) → (first : List (List ℕ)) × ((cut_on c b).whole ≡ c.whole ++ first)
on_more c b = by_test (nat_eq b 10)
  where
    by_test : (t : Bool) → (first : List (List ℕ)) × ((cond {A = Cut} t (record { whole = c.whole ++ c.rest ∷ []; rest = [] }) (record { whole = c.whole; rest = c.rest ++ b ∷ [] })).whole ≡ c.whole ++ first)
    by_test true = (c.rest ∷ [], refl)
    by_test false = ([], sym (append-nil c.whole))

-- more bytes add lines at the end
pub cut_more : (c : Cut) (xs : List ℕ) → (extra : List (List ℕ)) × ((cut_from c xs).whole ≡ c.whole ++ extra)
cut_more c [] = ([], sym (append-nil c.whole))
cut_more c (b ∷ bs) =
    let first = on_more c b in
    let rest = cut_more (cut_on c b) bs in
    (first.0 ++ rest.0, rest.1 ∙ ap (λ ls. ls ++ rest.0) first.1 ∙ append_assoc c.whole first.0 rest.0)

pub lines_more : (c : Cut) (ended : Bool) → (extra : List (List ℕ)) × (lines_of c ended ≡ c.whole ++ extra)
lines_more c false = ([], sym (append-nil c.whole))
lines_more c true = by_test (is_empty_bytes c.rest)
  where
    by_test : (t : Bool) → (extra : List (List ℕ)) × (cond t c.whole (c.whole ++ c.rest ∷ []) ≡ c.whole ++ extra)
    by_test true = ([], sym (append-nil c.whole))
    by_test false = (c.rest ∷ [], refl)

-- the lines with their newlines, and the rest, are the bytes

joined-append : (xs ys : List (List ℕ)) → joined (xs ++ ys) ≡ joined xs ++ joined ys
joined-append [] ys = refl
joined-append (x ∷ xs) ys = ap (λ zs. (x ++ 10 ∷ []) ++ zs) (joined-append xs ys) ∙ sym (append_assoc (x ++ 10 ∷ []) (joined xs) (joined ys))

same_newline : (b : ℕ) → nat_eq b 10 ≡ true → 10 ≡ b
same_newline b e = grind arith

on_joined : (c : Cut) (b : ℕ) → joined (cut_on c b).whole ++ (cut_on c b).rest ≡ (joined c.whole ++ c.rest) ++ b ∷ []
on_joined c b = by_test (nat_eq b 10) refl
  where
    by_test : (t : Bool) → nat_eq b 10 ≡ t → joined (cut_on c b).whole ++ (cut_on c b).rest ≡ (joined c.whole ++ c.rest) ++ b ∷ []
    by_test true e = rw e (append-nil (joined (c.whole ++ c.rest ∷ [])) ∙ joined-append c.whole (c.rest ∷ []) ∙ ap (λ zs. joined c.whole ++ zs) (append-nil (c.rest ++ 10 ∷ [])) ∙ sym (append_assoc (joined c.whole) c.rest (10 ∷ [])) ∙ ap (λ n. (joined c.whole ++ c.rest) ++ n ∷ []) (same_newline b e))
    by_test false e = rw e (sym (append_assoc (joined c.whole) c.rest (b ∷ [])))

pub from_joined : (c : Cut) (bytes : List ℕ) → joined (cut_from c bytes).whole ++ (cut_from c bytes).rest ≡ (joined c.whole ++ c.rest) ++ bytes
from_joined c [] = sym (append-nil (joined c.whole ++ c.rest))
from_joined c (b ∷ bs) = from_joined (cut_on c b) bs ∙ ap (λ zs. zs ++ bs) (on_joined c b) ∙ append_assoc (joined c.whole ++ c.rest) (b ∷ []) bs
