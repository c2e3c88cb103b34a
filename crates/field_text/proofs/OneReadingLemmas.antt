-- A reading that agrees with a grammar both ways shows that each text is one value or one refusal.
use Rattle.std.proofs.Common.{◌≡◌, ◌⊎◌, ℕ, Result, Ok, Err, ap, sym, ◌∙◌, inl, inr}
use Rattle.alt_base.specs.declared.refusal.At.{At}
use Rattle.field_text.specs.declared.text_refusal.TextRefusal.{TextRefusal}
use Rattle.field_text.specs.Refusals.{refused}
use Rattle.field_text.specs.OneReading.{OneReading}

-- the grammar's words for an answer
abbrev pub Says : (ℕ → Type 0) → (ℕ → TextRefusal → Type 0) → Result ℕ (At TextRefusal) → Type 0
Says Spells RefusedAt (Ok q) = Spells q
Says Spells RefusedAt (Err at) = RefusedAt at.place at.reason

some_answer : (Spells : ℕ → Type 0) (RefusedAt : ℕ → TextRefusal → Type 0) (r : Result ℕ (At TextRefusal)) → Says Spells RefusedAt r → ((q : ℕ) × Spells q) ⊎ ((q : ℕ) × (why : TextRefusal) × RefusedAt q why)
some_answer Spells RefusedAt (Ok q) s = inl (q, s)
some_answer Spells RefusedAt (Err at) s = inr (at.place, at.reason, s)

abbrev err_of : At TextRefusal → Result ℕ (At TextRefusal)
err_of a = Err a

same_at : (a b : At TextRefusal) → err_of a ≡ err_of b → (a.place ≡ b.place) × (a.reason ≡ b.reason)
same_at a b e = let h : a ≡ b = cc in (ap (λ (x : At TextRefusal). x.place) h, ap (λ (x : At TextRefusal). x.reason) h)

pub one_reading : (Spells : ℕ → Type 0) (RefusedAt : ℕ → TextRefusal → Type 0) (r : Result ℕ (At TextRefusal)) → Says Spells RefusedAt r
    → ((q : ℕ) → Spells q → r ≡ Ok q) → ((q : ℕ) (why : TextRefusal) → RefusedAt q why → r ≡ refused q why) → OneReading ℕ TextRefusal Spells RefusedAt
one_reading Spells RefusedAt r says spelled refused_is = record {
  some = some_answer Spells RefusedAt r says;
  one_value = λ q q' a b. let e = spelled q a in let e' = spelled q' b in cc;
  one_refusal = λ q q' why why' a b. let e = refused_is q why a in let e' = refused_is q' why' b in same_at (record { place = q; reason = why }) (record { place = q'; reason = why' }) (sym e ∙ e');
  not_both = λ q q' why a b. let e = spelled q a in let e' = refused_is q' why b in cc;
}
