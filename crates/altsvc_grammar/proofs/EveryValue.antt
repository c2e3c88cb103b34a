-- Each text is exactly one value or one refusal.
use Rattle.std.proofs.Common.{◌≡◌, ◌⊎◌, ℕ, zero, suc, ◌≤◌, ◌<◌, Bool, true, false, nat_eq, nat_lt, List, [], ◌∷◌, ◌++◌, length, Some, None, Result, Ok, Err, IfOk, refl, ap, sym, ◌∙◌, subst, arith, length-append, inl, inr}
use Rattle.alt_base.proofs.Numbers.{true_eq, false_eq, true_lt, false_lt}
use Rattle.alt_base.specs.declared.refusal.At.{At}
use Rattle.alt_base.specs.declared.refusal.Refused as Fails
use Rattle.alt_base.specs.declared.refusal.Refused.TheVariants as fails
use Rattle.alt_base.specs.Answers.{Answers, IfRefused}
use Rattle.field_text.specs.Runs.{BeginsIn}
use Rattle.field_text.specs.BlanksGrammar.{is_blank}
use Rattle.altsvc_grammar.specs.declared.alt_svc.AltSvc.{AltSvc}
use Rattle.altsvc_grammar.specs.declared.refusal.AltRefusal.{AltRefusal}
use Rattle.altsvc_grammar.specs.declared.refusal.AltRefusal.TheVariants.{Empty, BadToken, BadPercent, NoEquals, BadQuoted, BadAuthority, BadParameter, Trailing, TooLong}
use Rattle.altsvc_grammar.specs.ValueReading.{read_value, most_bytes}
use Rattle.altsvc_grammar.specs.ValueGrammar.{Element, element_then, Slot, slot_then, IsSlot, slots_before, AreSlots, elements_of, meaning, SpellsValue}
use Rattle.altsvc_grammar.specs.ValueRefusals.{IsRefusedElement, ValueRefusedAt, OneAltSvc}
use Rattle.altsvc_grammar.proofs.Fronts.{not_begun}
use Rattle.altsvc_grammar.proofs.EveryParameter.{BlanksFront, blanks_front}
use Rattle.altsvc_grammar.proofs.EveryElement.{ElementFront, ElementOutcome, element_outcome, element_longer}
use Rattle.altsvc_grammar.proofs.SpelledValues.{slots_count}
use Rattle.altsvc_grammar.proofs.Meanings.{value_spelled}
use Rattle.altsvc_grammar.proofs.RefusedValues.{value_refused}

-- slots to the end
pub record Whole (x : List ℕ) : Type 0 where
  pub before : List Slot
  pub last : Slot
  pub are_slots : AreSlots before
  pub is_slot : IsSlot last
  pub text : x ≡ slots_before before (slot_then last [])

pub record Refused (x : List ℕ) : Type 0 where
  pub q : ℕ
  pub r : AltRefusal
  pub refused : IsRefusedElement x q r

before_append : (ss : List Slot) (s : Slot) (w : List ℕ) → slots_before (ss ++ s ∷ []) w ≡ slots_before ss (slot_then s (44 ∷ w))
before_append [] s w = refl
before_append (t ∷ ss) s w = ap (λ xs. slot_then t (44 ∷ xs)) (before_append ss s w)

are_append : (ss : List Slot) (s : Slot) → AreSlots ss → IsSlot s → AreSlots (ss ++ s ∷ [])
are_append [] s are is = (is, tt)
are_append (t ∷ ss) s are is = (are.0, are_append ss s are.1 is)

suffix : (ss : List Slot) (w : List ℕ) → length w ≤ length (slots_before ss w)
suffix ss w = omega (arith, slots_count ss w)

walk : (k : ℕ) (x : List ℕ) (ss : List Slot) (y : List ℕ) → length y < k → AreSlots ss → x ≡ slots_before ss y → Whole x ⊎ Refused x
walk zero x ss y small are text = absurd (omega arith)
walk (suc k) x ss y small are text = go (blanks_front y) (λ tt' z less are' e. walk k x tt' z less are' e)
  where
    Rest : Type 0
    Rest = (tt' : List Slot) (z : List ℕ) → length z < k → AreSlots tt' → x ≡ slots_before tt' z → Whole x ⊎ Refused x

    short : length y ≤ length x
    short = omega (arith, ap length text, suffix ss y)

    none : (b : BlanksFront y) → Slot
    none b = record { front = b.blanks; element = None; back = [] }

    is_none : (b : BlanksFront y) → IsSlot (none b)
    is_none b = record { front = b.valid; element = tt; back = tt }

    some : (b : BlanksFront y) → ElementFront b.rest → Slot
    some b f = record { front = b.blanks; element = Some f.e; back = f.back }

    is_some : (b : BlanksFront y) (f : ElementFront b.rest) → IsSlot (some b f)
    is_some b f = record { front = b.valid; element = f.valid; back = f.blanks }

    -- a comma behind a slot
    comma : (s : Slot) (w : List ℕ) → IsSlot s → y ≡ slot_then s (44 ∷ w) → length w < k → Rest → Whole x ⊎ Refused x
    comma s w is e less rest = rest (ss ++ s ∷ []) w less (are_append ss s are is) (text ∙ ap (slots_before ss) e ∙ sym (before_append ss s w))

    finish : (s : Slot) → IsSlot s → y ≡ slot_then s [] → Whole x ⊎ Refused x
    finish s is e = inl (record { before = ss; last = s; are_slots = are; is_slot = is; text = text ∙ ap (slots_before ss) e })

    broken : (b : BlanksFront y) (f : ElementFront b.rest) → (f.tail ≡ []) ⊎ ((bs : List ℕ) × (f.tail ≡ 44 ∷ bs)) → Rest → Whole x ⊎ Refused x
    broken b f (inl e) rest = finish (some b f) (is_some b f) (b.text ∙ ap (λ xs. b.blanks ++ xs) (f.text ∙ ap (λ xs. element_then f.e (f.back ++ xs)) e))
    broken b f (inr e) rest =
        let less : length e.0 < k = omega (arith, ap length b.text, length-append b.blanks b.rest, ap length f.text, element_longer f.e (f.back ++ f.tail), length-append f.back f.tail, ap length e.1) in
        comma (some b f) e.0 (is_some b f) (b.text ∙ ap (λ xs. b.blanks ++ xs) (f.text ∙ ap (λ xs. element_then f.e (f.back ++ xs)) e.1)) less rest

    outcome : (b : BlanksFront y) → ElementOutcome (length x) b.rest → Rest → Whole x ⊎ Refused x
    outcome b (inl f) rest = broken b f f.break rest
    outcome b (inr r) rest = inr (record { q = r.0; r = r.1; refused = record { y = b.rest; begins = record { before = ss; blanks = b.blanks; are_slots = are; are_blanks = b.valid; text = text ∙ ap (slots_before ss) b.text }; refused = r.2 } })

    byte : (b : BlanksFront y) (c : ℕ) (cs : List ℕ) → b.rest ≡ c ∷ cs → (t : Bool) → nat_eq c 44 ≡ t → Rest → Whole x ⊎ Refused x
    byte b c cs e true is rest =
        let less : length cs < k = omega (arith, ap length b.text, length-append b.blanks b.rest, ap length e) in
        comma (none b) cs (is_none b) (b.text ∙ ap (λ xs. b.blanks ++ xs) (e ∙ ap (λ d. d ∷ cs) (true_eq c 44 is))) less rest
    byte b c cs e false is rest =
        let inside : length (c ∷ cs) ≤ length x = omega (arith, short, ap length b.text, length-append b.blanks b.rest, ap length e) in
        let blank : is_blank c ≡ false = not_begun is_blank c cs (λ h. b.longest (subst (BeginsIn is_blank) (sym e) h)) in
        outcome b (subst (ElementOutcome (length x)) (sym e) (element_outcome (length x) c cs blank (false_eq c 44 is) inside)) rest

    split : (b : BlanksFront y) (z : List ℕ) → b.rest ≡ z → Rest → Whole x ⊎ Refused x
    split b [] e rest = finish (none b) (is_none b) (b.text ∙ ap (λ xs. b.blanks ++ xs) e)
    split b (c ∷ cs) e rest = byte b c cs e (nat_eq c 44) refl rest

    go : BlanksFront y → Rest → Whole x ⊎ Refused x
    go b rest = split b b.rest refl rest

-- the table's word for the refusal of an element
refused_in_table : (x : List ℕ) (q : ℕ) (r : AltRefusal) → IsRefusedElement x q r → length x ≤ most_bytes → ValueRefusedAt x q r
refused_in_table x q Empty t short = absurd t.refused
refused_in_table x q BadToken t short = (t, short)
refused_in_table x q BadPercent t short = (t, short)
refused_in_table x q NoEquals t short = (t, short)
refused_in_table x q BadQuoted t short = (t, short)
refused_in_table x q BadAuthority t short = (t, short)
refused_in_table x q BadParameter t short = (t, short)
refused_in_table x q Trailing t short = (t, short)
refused_in_table x q TooLong t short = absurd t.refused

abbrev Some_answer : List ℕ → Type 0
Some_answer x = ((v : AltSvc) × SpellsValue x v) ⊎ ((q : ℕ) × (r : AltRefusal) × ValueRefusedAt x q r)

whole_answer : (x : List ℕ) (w : Whole x) → length x ≤ most_bytes → (es : List Element) → elements_of (w.before ++ w.last ∷ []) ≡ es → Some_answer x
whole_answer x w short [] e = inr (length x, Empty, (record { before = w.before; last = w.last; are_slots = w.are_slots; is_slot = w.is_slot; text = w.text; none = e; place = refl }, short))
whole_answer x w short (f ∷ es) e = inl (
  meaning (elements_of (w.before ++ w.last ∷ [])),
  record {
    before = w.before;
    last = w.last;
    are_slots = w.are_slots;
    is_slot = w.is_slot;
    text = w.text;
    short = short;
    some = λ h. let clash : f ∷ es ≡ [] = sym e ∙ h in cc;
    means = refl;
  },
)

pub answer : (x : List ℕ) → Some_answer x
answer x = go (nat_lt most_bytes (length x)) refl
  where
    short_one : length x ≤ most_bytes → Whole x ⊎ Refused x → Some_answer x
    short_one short (inl w) = whole_answer x w short (elements_of (w.before ++ w.last ∷ [])) refl
    short_one short (inr t) = inr (t.q, t.r, refused_in_table x t.q t.r t.refused short)

    go : (t : Bool) → nat_lt most_bytes (length x) ≡ t → Some_answer x
    go true is = inr (most_bytes, TooLong, (refl, true_lt most_bytes (length x) is))
    go false is = short_one (false_lt most_bytes (length x) is) (walk (suc (length x)) x [] x (omega arith) tt refl)

abbrev err_of : At AltRefusal → Result AltSvc (At AltRefusal)
err_of a = Err a

abbrev ok_of : AltSvc → Result AltSvc (At AltRefusal)
ok_of v = Ok v

same_at : (a b : At AltRefusal) → err_of a ≡ err_of b → (a.place ≡ b.place) × (a.reason ≡ b.reason)
same_at a b e = let h : a ≡ b = cc in (ap (λ (x : At AltRefusal). x.place) h, ap (λ (x : At AltRefusal). x.reason) h)

-- what is read is so spelled
pub read_spelled : (x : List ℕ) (v : AltSvc) → read_value x ≡ Ok v → SpellsValue x v
read_spelled x v h = go (answer x)
  where
    go : Some_answer x → SpellsValue x v
    go (inl s) = let e : ok_of s.0 ≡ ok_of v = sym (value_spelled x s.0 s.1) ∙ h in let same : s.0 ≡ v = cc in subst (SpellsValue x) same s.1
    go (inr s) = let e : err_of (record { place = s.0; reason = s.1 }) ≡ ok_of v = sym (value_refused x s.0 s.1 s.2) ∙ h in cc

-- and what is refused is so refused
pub read_refused : (x : List ℕ) (at : At AltRefusal) → read_value x ≡ Err at → ValueRefusedAt x at.place at.reason
read_refused x at h = go (answer x)
  where
    go : Some_answer x → ValueRefusedAt x at.place at.reason
    go (inl s) = let e : ok_of s.0 ≡ err_of at = sym (value_spelled x s.0 s.1) ∙ h in cc
    go (inr s) =
        let e : err_of (record { place = s.0; reason = s.1 }) ≡ err_of at = sym (value_refused x s.0 s.1 s.2) ∙ h in
        let same = same_at (record { place = s.0; reason = s.1 }) at e in
        let P : ℕ → Type 0 = λ q. ValueRefusedAt x q s.1 in
        let Q : AltRefusal → Type 0 = λ r. ValueRefusedAt x at.place r in
        subst Q same.1 (subst P same.0 s.2)

pub one_answer : (x : List ℕ) → OneAltSvc x
one_answer x = record {
  some = answer x;
  one_value = λ v w a b. let e : ok_of v ≡ ok_of w = sym (value_spelled x v a) ∙ value_spelled x w b in cc;
  one_refusal = λ q q' r r' a b. same_at (record { place = q; reason = r }) (record { place = q'; reason = r' }) (sym (value_refused x q r a) ∙ value_refused x q' r' b);
  not_both = λ v q r a b. let e : ok_of v ≡ err_of (record { place = q; reason = r }) = sym (value_spelled x v a) ∙ value_refused x q r b in cc;
}

-- a call that gives the reading says so
pub gives_spelled : (x : List ℕ) (r : Result AltSvc (Fails.Refused AltRefusal)) → Answers r (read_value x) → IfOk r (λ v. SpellsValue x v)
gives_spelled x (Ok v) h = read_spelled x v h
gives_spelled x (Err fails.NoMemory) h = tt
gives_spelled x (Err (fails.At place reason)) h = tt

pub gives_refused : (x : List ℕ) (r : Result AltSvc (Fails.Refused AltRefusal)) → Answers r (read_value x) → IfRefused r (λ place reason. ValueRefusedAt x place reason)
gives_refused x (Ok v) h = tt
gives_refused x (Err fails.NoMemory) h = tt
gives_refused x (Err (fails.At place reason)) h = read_refused x (record { place = place; reason = reason }) h
