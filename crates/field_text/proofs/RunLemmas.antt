-- The longest run in front of a text.
use Rattle.std.proofs.Common.{◌≡◌, ℕ, Bool, true, false, cond, List, [], ◌∷◌, ◌++◌, ◌-◌, ◌≤◌, length, take, drop, refl, ap, ◌∙◌, arith, length-drop}
use Rattle.std.proofs.lemmas.List.{take_all, drop-drop}
use Rattle.std.proofs.Math.Seq.{take-append_seam, drop-append_seam}
use Rattle.field_text.specs.Runs.{AllIn, BeginsIn, IsLongestRun, run_of, after_run}

run_split : (class : ℕ → Bool) (x : List ℕ) → x ≡ run_of class x ++ after_run class x
run_split class [] = refl
run_split class (b ∷ bs) = go (class b) (run_split class bs)
  where
    go : (t : Bool) → bs ≡ run_of class bs ++ after_run class bs → b ∷ bs ≡ cond t (b ∷ run_of class bs) [] ++ cond t (after_run class bs) (b ∷ bs)
    go true rec = ap (λ xs. b ∷ xs) rec
    go false rec = refl

run_valid : (class : ℕ → Bool) (x : List ℕ) → AllIn class (run_of class x)
run_valid class [] = tt
run_valid class (b ∷ bs) = go (class b) refl (run_valid class bs)
  where
    go : (t : Bool) → class b ≡ t → AllIn class (run_of class bs) → AllIn class (cond t (b ∷ run_of class bs) [])
    go true is rec = (is, rec)
    go false is rec = tt

run_longest : (class : ℕ → Bool) (x : List ℕ) → BeginsIn class (after_run class x) → ⊥
run_longest class [] = λ h. h
run_longest class (b ∷ bs) = go (class b) refl (run_longest class bs)
  where
    go : (t : Bool) → class b ≡ t → (BeginsIn class (after_run class bs) → ⊥) → BeginsIn class (cond t (after_run class bs) (b ∷ bs)) → ⊥
    go true is rec = rec
    go false is rec = λ h. cc

-- what is read is so split
pub longest_run : (class : ℕ → Bool) (x : List ℕ) → IsLongestRun class x (run_of class x) (after_run class x)
longest_run class x = record { text = run_split class x; valid = run_valid class x; longest = run_longest class x }

-- no run is in front where the first byte is in no run
pub no_run : (class : ℕ → Bool) (x : List ℕ) → (BeginsIn class x → ⊥) → run_of class x ≡ []
no_run class [] ends = refl
no_run class (b ∷ bs) ends = go (class b) refl
  where
    go : (t : Bool) → class b ≡ t → cond t (b ∷ run_of class bs) [] ≡ []
    go true is = absurd (ends is)
    go false is = refl

pub all_behind : (class : ℕ → Bool) (x : List ℕ) → (BeginsIn class x → ⊥) → after_run class x ≡ x
all_behind class [] ends = refl
all_behind class (b ∷ bs) ends = go (class b) refl
  where
    go : (t : Bool) → class b ≡ t → cond t (after_run class bs) (b ∷ bs) ≡ b ∷ bs
    go true is = absurd (ends is)
    go false is = refl

-- and the other way round
pub begins_no_run : (class : ℕ → Bool) (x : List ℕ) → run_of class x ≡ [] → BeginsIn class x → ⊥
begins_no_run class [] none h = h
begins_no_run class (b ∷ bs) none h = clash (rw h at none)
  where
    clash : b ∷ run_of class bs ≡ [] → ⊥
    clash e = cc

-- what is so split is read
pub run_of-append : (class : ℕ → Bool) (run rest : List ℕ) → AllIn class run → (BeginsIn class rest → ⊥) → run_of class (run ++ rest) ≡ run
run_of-append class [] rest valid ends = no_run class rest ends
run_of-append class (b ∷ bs) rest valid ends = rw valid.0 (ap (λ xs. b ∷ xs) (run_of-append class bs rest valid.1 ends))

pub after_run-append : (class : ℕ → Bool) (run rest : List ℕ) → AllIn class run → (BeginsIn class rest → ⊥) → after_run class (run ++ rest) ≡ rest
after_run-append class [] rest valid ends = all_behind class rest ends
after_run-append class (b ∷ bs) rest valid ends = rw valid.0 (after_run-append class bs rest valid.1 ends)

pub run_is : (class : ℕ → Bool) (x run rest : List ℕ) → IsLongestRun class x run rest → run_of class x ≡ run
run_is class x run rest s = rw s.text (run_of-append class run rest s.valid s.longest)

pub after_is : (class : ℕ → Bool) (x run rest : List ℕ) → IsLongestRun class x run rest → after_run class x ≡ rest
after_is class x run rest s = rw s.text (after_run-append class run rest s.valid s.longest)

-- from a place on, and from there on
pub drop_on : (p q : ℕ) (x : List ℕ) → p ≤ q → drop (q - p) (drop p x) ≡ drop q x
drop_on p q x below = drop-drop (q - p) p x ∙ ap (λ n. drop n x) (omega arith)

-- a slice from a place to the end, as a call is given it
pub slice_rest : (p : ℕ) (x : List ℕ) → take (length x - p) (drop p x) ≡ drop p x
slice_rest p x = take_all (length x - p) (drop p x) (omega (arith, length-drop p x))

-- two runs of a class are one
pub AllIn-append : (class : ℕ → Bool) (xs ys : List ℕ) → AllIn class xs → AllIn class ys → AllIn class (xs ++ ys)
AllIn-append class [] ys h k = k
AllIn-append class (x ∷ xs) ys h k = (h.0, AllIn-append class xs ys h.1 k)

-- a run in front is taken by its length, and dropped by it
pub run_taken : (class : ℕ → Bool) (x : List ℕ) → take (length (run_of class x)) x ≡ run_of class x
run_taken class x = ap (take (length (run_of class x))) (run_split class x) ∙ take-append_seam (run_of class x) (after_run class x)

pub run_dropped : (class : ℕ → Bool) (x : List ℕ) → drop (length (run_of class x)) x ≡ after_run class x
run_dropped class x = ap (drop (length (run_of class x))) (run_split class x) ∙ drop-append_seam (run_of class x) (after_run class x)

-- by a number that is that length
pub taken_by : (class : ℕ → Bool) (x : List ℕ) (n : ℕ) → n ≡ length (run_of class x) → take n x ≡ run_of class x
taken_by class x n is = ap (λ m. take m x) is ∙ run_taken class x
