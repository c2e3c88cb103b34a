-- Slices of an input, as calls are given them.
use Rattle.std.proofs.Common.{◌≡◌, ℕ, ◌+◌, ◌-◌, ◌<◌, true, false, nat_eq, List, ◌∷◌, length, take, drop, get_or, Result, Err, ap, sym, ◌∙◌, subst, arith, add-one}
use Rattle.std.proofs.lemmas.List.{drop-drop}
use Rattle.std.proofs.Math.Seq.{drop-cons}
use Rattle.alt_base.proofs.Numbers.{true_eq}
use Rattle.alt_base.specs.declared.refusal.At.{At}
use Rattle.alt_base.specs.declared.refusal.Refused.{Refused}
use Rattle.alt_base.specs.declared.refusal.Refused.TheVariants as refusal
use Rattle.field_text.specs.QuotedGrammar.{SpellsQuoted}
use Rattle.field_text.specs.QuotedReading.{unquoted, unquoted_body}
use Rattle.field_text.proofs.UnquotedLemmas.{between_quotes, between_is, unquoted_is}
use Rattle.altsvc_grammar.specs.Steps.{Step, GivesStep, begins_with}

-- the slice between the quotes stands for the unquoted text
pub unquoted_slice : (p q : ℕ) (x : List ℕ) → SpellsQuoted p (drop p x) q → unquoted_body false (take (q - 1 - (p + 1)) (drop (p + 1) x)) ≡ unquoted (drop p x)
unquoted_slice p q x s =
    let n : q - 1 - (p + 1) ≡ q - p - 2 = omega arith in
    let d : drop (p + 1) x ≡ drop 1 (drop p x) = sym (drop-drop 1 p x) in
    rw (n, d, between_quotes p q (drop p x) s) (between_is p q (drop p x) s ∙ sym (unquoted_is p q (drop p x) s))

-- the byte that stands at a place
pub front_byte : (byte p : ℕ) (x : List ℕ) → p < length x → begins_with byte (drop p x) ≡ true → drop p x ≡ byte ∷ drop (p + 1) x
front_byte byte p x inside h =
    let split : drop p x ≡ get_or x p 0 ∷ drop (p + 1) x = rw add-one (drop-cons x p 0 inside) in
    let test : nat_eq (get_or x p 0) byte ≡ true = subst (λ xs. begins_with byte xs ≡ true) split h in
    split ∙ ap (λ b. b ∷ drop (p + 1) x) (true_eq (get_or x p 0) byte test)

-- a refusal is passed on
pub passed_on : {A B R : Type 0} (input : List ℕ) (more : Result (Step A) (At R) → Result (Step B) (At R)) → ((at : At R) → more (Err at) ≡ Err at)
    → (e : Refused R) (reading : Result (Step A) (At R)) → GivesStep input (Err e) reading → GivesStep input (Err e) (more reading)
passed_on input more passes refusal.NoMemory reading h = tt
passed_on input more passes (refusal.At place reason) reading h = ap more h ∙ passes (record { place = place; reason = reason })
