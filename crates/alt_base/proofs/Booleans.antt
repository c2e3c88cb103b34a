-- What tests that are joined say, beside the library's lemmas on them (`Rattle.std.proofs.lemmas.Bool`).
use Rattle.std.proofs.Common.{◌≡◌, Bool, true, false, ◌&&◌, ◌||◌, refl, sym, ◌∙◌, true≢false}

pub contradicts : {P : Type 0} (b : Bool) → b ≡ true → b ≡ false → P
contradicts b t f = absurd (true≢false (sym t ∙ f))

pub first_of_both : (a b : Bool) → (a && b) ≡ true → a ≡ true
first_of_both true b h = refl
first_of_both false b h = absurd (true≢false (sym h))

pub second_of_both : (a b : Bool) → (a && b) ≡ true → b ≡ true
second_of_both true b h = h
second_of_both false b h = absurd (true≢false (sym h))

pub first_of_neither : (a b : Bool) → (a || b) ≡ false → a ≡ false
first_of_neither true b h = absurd (true≢false h)
first_of_neither false b h = refl

pub second_of_neither : (a b : Bool) → (a || b) ≡ false → b ≡ false
second_of_neither true b h = absurd (true≢false h)
second_of_neither false b h = h

pub third_of_four : (a b c d : Bool) → c ≡ true → (a || (b || (c || d))) ≡ true
third_of_four true b c d h = refl
third_of_four false true c d h = refl
third_of_four false false c d h = rw h refl

pub or_swap : (a b c : Bool) → (a || (b || c)) ≡ (b || (a || c))
or_swap true true c = refl
or_swap true false c = refl
or_swap false true c = refl
or_swap false false c = refl

-- two tests that pass together are one
pub one_truth : (a b : Bool) → (a ≡ true → b ≡ true) → (b ≡ true → a ≡ true) → a ≡ b
one_truth true b to from = sym (to refl)
one_truth false true to from = from refl
one_truth false false to from = refl
