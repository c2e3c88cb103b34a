-- Refusals and readings as results, and their parts.
use Rattle.std.proofs.Common.{◌≡◌, ℕ, Result, Ok, Err, ap, ◌∙◌}
use Rattle.alt_base.specs.declared.refusal.At.{At}
use Rattle.event_lines.specs.Parts.{Part, Reading, refused}
use Rattle.event_lines.specs.declared.event.Event.{Event}
use Rattle.event_lines.specs.declared.refusal.LineRefusal.{LineRefusal}

-- whether a text passes, and where it doesn't
abbrev pub Passed : Type 0
Passed = Result (Unit {0}) (At LineRefusal)

abbrev pub passed : Passed
passed = Ok tt

abbrev pub bad : ℕ → LineRefusal → Passed
bad place reason = refused place reason

pub same_refusal : (p q : ℕ) (r s : LineRefusal) → p ≡ q → r ≡ s → bad p r ≡ bad q s
same_refusal p q r s e f = ap (λ n. bad n r) e ∙ ap (bad q) f

pub passed_err : (a b : At LineRefusal) → ◌≡◌ {A = Passed} (Err a) (Err b) → a ≡ b
passed_err a b f = cc

pub refusal_parts : (p q : ℕ) (r s : LineRefusal) → bad p r ≡ bad q s → (p ≡ q) × (r ≡ s)
refusal_parts p q r s e =
    let h : at p r ≡ at q s = passed_err (at p r) (at q s) e in (ap (λ (x : At LineRefusal). x.place) h, ap (λ (x : At LineRefusal). x.reason) h)
  where
    at : ℕ → LineRefusal → At LineRefusal
    at place reason = record { place = place; reason = reason }

abbrev got : Event → Part → Reading Event
got event left = Ok (event, left)

pub got_parts : (a b : Event) (p q : Part) → got a p ≡ got b q → (a ≡ b) × (p ≡ q)
got_parts a b p q h =
    let both : pair a p ≡ pair b q = ok_parts (pair a p) (pair b q) h in (ap (λ (x : Event × Part). x.0) both, ap (λ (x : Event × Part). x.1) both)
  where
    pair : Event → Part → Event × Part
    pair e r = (e, r)

    ok_parts : (x y : Event × Part) → ◌≡◌ {A = Reading Event} (Ok x) (Ok y) → x ≡ y
    ok_parts x y e = cc
