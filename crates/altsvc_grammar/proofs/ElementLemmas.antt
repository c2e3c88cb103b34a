-- The steps of reading elements, in an input from a place on.
use Rattle.std.proofs.Common.{◌≡◌, ℕ, ◌+◌, ◌-◌, ◌<◌, true, false, List, [], ◌∷◌, length, take, drop, Result, Ok, Err, refl, ap, ◌∙◌, arith, length-drop}
use Rattle.std.proofs.lemmas.List.{drop_all}
use Rattle.alt_base.proofs.Numbers.{one_fewer}
use Rattle.alt_base.specs.declared.refusal.At.{At}
use Rattle.alt_base.specs.declared.refusal.Refused.{Refused}
use Rattle.alt_base.specs.declared.refusal.Refused.TheVariants as refusal
use Rattle.field_text.specs.BlanksReading.{read_blanks, after_blanks}
use Rattle.field_text.specs.TokenGrammar.{SpellsToken}
use Rattle.field_text.specs.TokenReading.{after_token, token_of}
use Rattle.field_text.proofs.TokenLemmas.{token_spelled, token_taken, token_rest}
use Rattle.alt_base.specs.Answers.{Answers}
use Rattle.altsvc_grammar.specs.declared.refusal.AltRefusal.{AltRefusal}
use Rattle.altsvc_grammar.specs.declared.refusal.AltRefusal.TheVariants.{Trailing}
use Rattle.altsvc_grammar.specs.declared.element.Element.{Element}
use Rattle.altsvc_grammar.specs.declared.seen.Seen as code
use Rattle.altsvc_grammar.specs.Steps.{Step, GivesStep, begins_with, refused}
use Rattle.altsvc_grammar.specs.ProtocolReading.{read_protocol}
use Rattle.altsvc_grammar.specs.ValueReading.{Seen, read_element, element_by_token, after_element_token, lone_token, with_protocol, seen_element, element_seen, after_element, then_elements, read_elements}
use Rattle.altsvc_grammar.specs.SeenElements.{GivesPlace, GivesSeen}
use Rattle.altsvc_grammar.proofs.Slices.{front_byte}

by_token : (most p q : ℕ) (x : List ℕ) → SpellsToken p (drop p x) q → read_element most p (drop p x) ≡ after_element_token most p (take (q - p) (drop p x)) q (drop q x)
by_token most p q x s =
    let said : read_element most p (drop p x) ≡ after_element_token most p (token_of (drop p x)) q (after_token (drop p x)) = ap (element_by_token most p (drop p x)) (token_spelled p q (drop p x) s) in
    let taken = token_taken p q (drop p x) s in
    let rest = token_rest p q x s in
    rw (taken, rest) said

pub no_equals : (most p q : ℕ) (token x : List ℕ) → begins_with 61 x ≡ false → after_element_token most p token q x ≡ lone_token token q x
no_equals most p q token [] none = refl
no_equals most p q token (b ∷ bs) none = rw none refl

-- a token that no `=` follows
pub alone : (most p q : ℕ) (x : List ℕ) → SpellsToken p (drop p x) q → begins_with 61 (drop q x) ≡ false → read_element most p (drop p x) ≡ lone_token (take (q - p) (drop p x)) q (drop q x)
alone most p q x s none = by_token most p q x s ∙ no_equals most p q (take (q - p) (drop p x)) (drop q x) none

-- a token and `=`
pub of_protocol : (most p q : ℕ) (x : List ℕ) → SpellsToken p (drop p x) q → q < length x → begins_with 61 (drop q x) ≡ true
    → read_element most p (drop p x) ≡ with_protocol most (q + 1) (drop (q + 1) x) (read_protocol p (take (q - p) (drop p x)))
of_protocol most p q x s inside equals = by_token most p q x s ∙ rw (front_byte 61 q x inside equals) refl

-- a refusal is passed on
pub refused_on : {A B R : Type 0} (input : List ℕ) (more : Result A (At R) → Result (Step B) (At R)) → ((at : At R) → more (Err at) ≡ Err at)
    → (e : Refused R) (reading : Result A (At R)) → Answers (Err e) reading → GivesStep input (Err e) (more reading)
refused_on input more passes refusal.NoMemory reading h = tt
refused_on input more passes (refusal.At place reason) reading h = ap more h ∙ passes (record { place = place; reason = reason })

pub element_refused : (input : List ℕ) (seen : code.Seen) (before : Seen) (e : Refused AltRefusal) (reading : Result (Step Element) (At AltRefusal)) → GivesStep input (Err e) reading → GivesPlace input seen (Err e) (element_seen before reading)
element_refused input seen before refusal.NoMemory reading h = tt
element_refused input seen before (refusal.At place reason) reading h = ap (element_seen before) h

pub elements_refused : (input : List ℕ) (seen : code.Seen) (more : Seen → ℕ → List ℕ → Result Seen (At AltRefusal)) (e : Refused AltRefusal) (reading : Result (Step Seen) (At AltRefusal)) → GivesPlace input seen (Err e) reading → GivesSeen (Err e) (then_elements more reading)
elements_refused input seen more refusal.NoMemory reading h = tt
elements_refused input seen more (refusal.At place reason) reading h = ap (then_elements more) h

-- a comma or the end
pub nothing_at_end : (most : ℕ) (seen : Seen) (p : ℕ) (x : List ℕ) → p ≡ length x → seen_element most seen p (drop p x) ≡ Ok (record { value = seen; place = p; rest = drop p x })
nothing_at_end most seen p x end = rw (drop_all p x (omega arith)) refl

pub nothing_at_comma : (most : ℕ) (seen : Seen) (p : ℕ) (x : List ℕ) → begins_with 44 x ≡ true → seen_element most seen p x ≡ Ok (record { value = seen; place = p; rest = x })
nothing_at_comma most seen p [] comma = refl
nothing_at_comma most seen p (b ∷ bs) comma = rw comma refl

pub seen_at : (most : ℕ) (seen : Seen) (p : ℕ) (x : List ℕ) → 0 < length x → begins_with 44 x ≡ false → seen_element most seen p x ≡ element_seen seen (read_element most p x)
seen_at most seen p [] some none = absurd (omega arith)
seen_at most seen p (b ∷ bs) some none = rw none refl

-- an element
pub element_at : (most : ℕ) (seen : Seen) (p : ℕ) (x : List ℕ) → p < length x → begins_with 44 (drop p x) ≡ false → seen_element most seen p (drop p x) ≡ element_seen seen (read_element most p (drop p x))
element_at most seen p x inside none = seen_at most seen p (drop p x) (omega (arith, length-drop p x)) none

-- one turn: the blanks, and what stands before the next comma or the end
pub one_turn : (most n i : ℕ) (seen : Seen) (p q : ℕ) (x : List ℕ) → i < n → q ≡ read_blanks p (drop p x) → drop q x ≡ after_blanks (drop p x)
    → read_elements most (n - i) seen p (drop p x) ≡ then_elements (read_elements most (n - (i + 1))) (seen_element most seen q (drop q x))
one_turn most n i seen p q x h is rest = rw (one_fewer n i h, ← is, ← rest) refl

pub end_behind : (more : Seen → ℕ → List ℕ → Result Seen (At AltRefusal)) (seen : Seen) (p : ℕ) (x : List ℕ) → p ≡ length x → after_element more seen p (drop p x) ≡ Ok seen
end_behind more seen p x end = rw (drop_all p x (omega arith)) refl

pub comma_behind : (more : Seen → ℕ → List ℕ → Result Seen (At AltRefusal)) (seen : Seen) (p : ℕ) (x : List ℕ) → p < length x → begins_with 44 (drop p x) ≡ true → after_element more seen p (drop p x) ≡ more seen (p + 1) (drop (p + 1) x)
comma_behind more seen p x inside comma = rw (front_byte 44 p x inside comma) refl

other_behind : (more : Seen → ℕ → List ℕ → Result Seen (At AltRefusal)) (seen : Seen) (p : ℕ) (x : List ℕ) → 0 < length x → begins_with 44 x ≡ false → after_element more seen p x ≡ refused p Trailing
other_behind more seen p [] some none = absurd (omega arith)
other_behind more seen p (b ∷ bs) some none = rw none refl

pub trailing_behind : (more : Seen → ℕ → List ℕ → Result Seen (At AltRefusal)) (seen : Seen) (p : ℕ) (x : List ℕ) → p < length x → begins_with 44 (drop p x) ≡ false → after_element more seen p (drop p x) ≡ refused p Trailing
trailing_behind more seen p x inside none = other_behind more seen p (drop p x) (omega (arith, length-drop p x)) none
