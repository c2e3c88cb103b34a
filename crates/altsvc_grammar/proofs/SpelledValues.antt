-- Reading a value that is spelled so, or that is refused.
use Rattle.std.proofs.Common.{◌≡◌, ℕ, suc, ◌+◌, ◌-◌, ◌≤◌, ◌<◌, Bool, true, false, nat_eq, List, [], ◌∷◌, ◌++◌, length, codes, Option, Some, None, Result, Ok, refl, ap, sym, ◌∙◌, subst, arith, length-append}
use Rattle.alt_base.specs.declared.refusal.At.{At}
use Rattle.field_text.specs.Runs.{AllIn, BeginsIn}
use Rattle.field_text.specs.BlanksGrammar.{is_blank}
use Rattle.field_text.specs.BlanksReading.{read_blanks, after_blanks}
use Rattle.field_text.specs.TokenGrammar.{is_token}
use Rattle.altsvc_grammar.specs.declared.refusal.AltRefusal.{AltRefusal}
use Rattle.altsvc_grammar.specs.Written.{encoded}
use Rattle.altsvc_grammar.specs.Steps.{begins_with, refused}
use Rattle.altsvc_grammar.specs.ParameterGrammar.{IsToken, ParameterValue, Token, Quoted, EndsValue, Parameter, EndsParameters, parameters_then}
use Rattle.altsvc_grammar.specs.ValueReading.{Seen, nothing_seen, see, seen_element, element_seen, then_elements, read_elements, read_element}
use Rattle.altsvc_grammar.specs.ValueGrammar.{alternative_then, Element, Clear, Offered, element_then, IsElement, Slot, slot_then, optional_then, IsOptionalElement, IsSlot, slots_before, AreSlots, with_element, elements_of}
use Rattle.altsvc_grammar.proofs.Spelling.{after_pass, blanks_end, blanks_place, no_blank_front, no_comma_front, no_token_front, quoted_then}
use Rattle.altsvc_grammar.proofs.Percents.{encoded_token}
use Rattle.altsvc_grammar.proofs.SpelledParameters.{more_than}
use Rattle.altsvc_grammar.proofs.SpelledElements.{clear_token, element_meant, Ends, element_read, alternative_count, more_than_is}
use Rattle.altsvc_grammar.proofs.ElementLemmas.{seen_at}

-- what stands behind a slot: the end, or a comma
pub record IsBreak (w : List ℕ) : Type 0 where
  pub blank : BeginsIn is_blank w → ⊥
  pub token : BeginsIn is_token w → ⊥
  pub semicolon : begins_with 59 w ≡ false
  pub equals : begins_with 61 w ≡ false
  pub nothing : (most : ℕ) (seen : Seen) (p : ℕ) → seen_element most seen p w ≡ Ok (record { value = seen; place = p; rest = w })

pub break_end : IsBreak []
break_end = record { blank = λ h. h; token = λ h. h; semicolon = refl; equals = refl; nothing = λ most seen p. refl }

pub break_comma : (y : List ℕ) → IsBreak (44 ∷ y)
break_comma y = record { blank = λ h. cc; token = λ h. cc; semicolon = refl; equals = refl; nothing = λ most seen p. refl }

-- an element's first bytes are a token
abbrev first_token : Element → List ℕ
first_token Clear = codes "clear"
first_token (Offered a) = encoded a.proto

abbrev behind_token : Element → List ℕ → List ℕ
behind_token Clear w = w
behind_token (Offered a) w = 61 ∷ quoted_then a.parts (parameters_then a.parameters w)

is_first_token : (e : Element) → IsElement e → IsToken (first_token e)
is_first_token Clear valid = clear_token
is_first_token (Offered a) valid = encoded_token a.proto valid.proto.some

first_split : (e : Element) (w : List ℕ) → element_then e w ≡ first_token e ++ behind_token e w
first_split Clear w = refl
first_split (Offered a) w = refl

pub element_no_blank : (e : Element) (w : List ℕ) → IsElement e → BeginsIn is_blank (element_then e w) → ⊥
element_no_blank e w valid h = no_blank_front (first_token e) (behind_token e w) (is_first_token e valid) (subst (BeginsIn is_blank) (first_split e w) h)

pub element_no_comma : (e : Element) (w : List ℕ) → IsElement e → begins_with 44 (element_then e w) ≡ false
element_no_comma e w valid = rw (first_split e w) (no_comma_front (first_token e) (behind_token e w) (is_first_token e valid))

token_some : (t : List ℕ) → IsToken t → 0 < length t
token_some [] h = absurd (h.some refl)
token_some (b ∷ bs) h = omega arith

pub element_some : (e : Element) (w : List ℕ) → IsElement e → 0 < length (element_then e w)
element_some e w valid = rw (first_split e w) (omega (arith, token_some (first_token e) (is_first_token e valid), length-append (first_token e) (behind_token e w)))

no_equals_behind : (back w : List ℕ) → AllIn is_blank back → begins_with 61 w ≡ false → begins_with 61 (back ++ w) ≡ false
no_equals_behind [] w are none = none
no_equals_behind (b ∷ bs) w are none = blank_not b are.0
  where
    eq_fact : (x y : ℕ) → nat_eq x y ≡ true → x ≡ y
    eq_fact x y h = grind arith

    blank_not : (c : ℕ) → is_blank c ≡ true → nat_eq c 61 ≡ false
    blank_not c h = go (nat_eq c 61) refl
      where
        go : (t : Bool) → nat_eq c 61 ≡ t → t ≡ false
        go true is = let clash : is_blank 61 ≡ true = subst (λ x. is_blank x ≡ true) (eq_fact c 61 is) h in cc
        go false is = refl

-- an element may end before blanks and a break
ends_value : (v : ParameterValue) (back w : List ℕ) → AllIn is_blank back → IsBreak w → EndsValue v (back ++ w)
ends_value (Token t) back w are b = no_token_front back w are b.token
ends_value (Quoted parts) back w are b = tt

ends_parameters : (ps : List Parameter) (back w : List ℕ) → AllIn is_blank back → IsBreak w → EndsParameters ps (back ++ w)
ends_parameters [] back w are b = tt
ends_parameters (q ∷ []) back w are b = ends_value q.value back w are b
ends_parameters (q ∷ r ∷ ps) back w are b = ends_parameters (r ∷ ps) back w are b

ends_break : (e : Element) (back w : List ℕ) → AllIn is_blank back → IsBreak w → Ends e (back ++ w) w
ends_break Clear back w are b = (no_token_front back w are b.token, no_equals_behind back w are b.equals)
ends_break (Offered a) back w are b = (ends_parameters a.parameters back w are b, b.semicolon)

-- what a slot shows
abbrev pub see_optional : Seen → Option Element → Seen
see_optional seen None = seen
see_optional seen (Some e) = see seen (element_meant e)

-- blanks and an element, and what follows it
pub element_seen_at : (most n p : ℕ) (seen : Seen) (front : List ℕ) (e : Element) (y : List ℕ) → AllIn is_blank front → IsElement e → p + length (front ++ element_then e y) ≡ n
    → seen_element most seen (read_blanks p (front ++ element_then e y)) (after_blanks (front ++ element_then e y)) ≡ element_seen seen (read_element most (n - length (element_then e y)) (element_then e y))
element_seen_at most n p seen front e y are valid place =
    let x = element_then e y in
    let behind = blanks_end front x are (element_no_blank e y valid) in
    let here : read_blanks p (front ++ x) ≡ n - length x = blanks_place n p (front ++ x) place ∙ ap (λ xs. n - length xs) behind in
    rw (behind, here) (seen_at most seen (n - length x) x (element_some e y valid) (element_no_comma e y valid))

slot_read : (most n p : ℕ) (seen : Seen) (front : List ℕ) (o : Option Element) (back w : List ℕ) → AllIn is_blank front → IsOptionalElement o → AllIn is_blank back → IsBreak w
    → length (front ++ optional_then o (back ++ w)) < most → p + length (front ++ optional_then o (back ++ w)) ≡ n
    → seen_element most seen (read_blanks p (front ++ optional_then o (back ++ w))) (after_blanks (front ++ optional_then o (back ++ w))) ≡ Ok (record { value = see_optional seen o; place = n - length w; rest = w })
slot_read most n p seen front None back w are valid are' b long place =
    let behind : after_blanks (front ++ (back ++ w)) ≡ w = after_pass is_blank front (back ++ w) are ∙ blanks_end back w are' b.blank in
    let here : read_blanks p (front ++ (back ++ w)) ≡ n - length w = blanks_place n p (front ++ (back ++ w)) place ∙ ap (λ xs. n - length xs) behind in
    rw (behind, here) (b.nothing most seen (n - length w))
slot_read most n p seen front (Some e) back w are valid are' b long place =
    let x = element_then e (back ++ w) in
    let from : n - length x + length x ≡ n = omega (arith, length-append front x) in
    let short : length x < most = omega (arith, length-append front x) in
    element_seen_at most n p seen front e (back ++ w) are valid place
    ∙ ap (element_seen seen) (element_read most n (n - length x) e back w valid are' b.blank (ends_break e back w are' b) short from)

abbrev pub see_slots : Seen → List Slot → Seen
see_slots seen [] = seen
see_slots seen (s ∷ ss) = see_slots (see_optional seen s.element) ss

slot_count : (front : List ℕ) (o : Option Element) (back w : List ℕ) → length w ≤ length (front ++ optional_then o (back ++ w))
slot_count front None back w = omega (arith, length-append front (back ++ w), length-append back w)
slot_count front (Some Clear) back w = omega (arith, length-append front (codes "clear" ++ (back ++ w)), length-append (codes "clear") (back ++ w), length-append back w)
slot_count front (Some (Offered a)) back w = omega (arith, length-append front (alternative_then a (back ++ w)), alternative_count a (back ++ w), length-append back w)

pub slots_count : (ss : List Slot) (w : List ℕ) → length ss + length w ≤ length (slots_before ss w)
slots_count [] w = omega arith
slots_count (s ∷ ss) w = omega (arith, slots_count ss w, slot_count s.front s.element s.back (44 ∷ slots_before ss w))

-- the slots in front are read
pub slots_prefix : (ss : List Slot) (most n p k : ℕ) (seen : Seen) (w : List ℕ) → AreSlots ss → length (slots_before ss w) < most → p + length (slots_before ss w) ≡ n
    → read_elements most (more_than ss k) seen p (slots_before ss w) ≡ read_elements most k (see_slots seen ss) (n - length w) w
slots_prefix [] most n p k seen w are long place = ap (λ q. read_elements most k seen q w) (omega arith)
slots_prefix (s ∷ ss) most n p k seen w are long place =
    let y = slots_before ss w in
    let more = read_elements most (more_than ss k) in
    let seen' = see_optional seen s.element in
    let count = slot_count s.front s.element s.back (44 ∷ y) in
    let next : n - length (44 ∷ y) + 1 + length y ≡ n = omega arith in
    let short : length y < most = omega arith in
    ap (then_elements more) (slot_read most n p seen s.front s.element s.back (44 ∷ y) are.0.front are.0.element are.0.back (break_comma y) long place)
    ∙ slots_prefix ss most n (n - length (44 ∷ y) + 1) k seen' w are.1 short next

-- the last slot
pub last_read : (most n p k : ℕ) (seen : Seen) (s : Slot) → IsSlot s → length (slot_then s []) < most → p + length (slot_then s []) ≡ n
    → read_elements most (suc k) seen p (slot_then s []) ≡ Ok (see_optional seen s.element)
last_read most n p k seen s is long place =
    ap (then_elements (read_elements most k)) (slot_read most n p seen s.front s.element s.back [] is.front is.element is.back break_end long place)

see_slots_append : (ss : List Slot) (last : Slot) (seen : Seen) → see_slots seen (ss ++ last ∷ []) ≡ see_optional (see_slots seen ss) last.element
see_slots_append [] last seen = refl
see_slots_append (s ∷ ss) last seen = see_slots_append ss last (see_optional seen s.element)

-- all elements
abbrev pub see_all : Seen → List Element → Seen
see_all seen [] = seen
see_all seen (e ∷ es) = see_all (see seen (element_meant e)) es

see_slots_elements : (ss : List Slot) (seen : Seen) → see_slots seen ss ≡ see_all seen (elements_of ss)
see_slots_elements [] seen = refl
see_slots_elements (s ∷ ss) seen = go s.element (λ next. see_slots_elements ss next)
  where
    go : (o : Option Element) → ((next : Seen) → see_slots next ss ≡ see_all next (elements_of ss)) → see_slots (see_optional seen o) ss ≡ see_all seen (with_element o (elements_of ss))
    go None rest = rest seen
    go (Some e) rest = rest (see seen (element_meant e))

fuel : (n : ℕ) (ss : List Slot) → length ss ≤ n → more_than ss (suc (n - length ss)) ≡ n + 1
fuel n ss h = omega (arith, more_than_is ss (suc (n - length ss)))

-- the elements of a whole text
pub elements_read : (ss : List Slot) (last : Slot) → AreSlots ss → IsSlot last
    → let x = slots_before ss (slot_then last []) in read_elements (length x + 1) (length x + 1) nothing_seen 0 x ≡ Ok (see_all nothing_seen (elements_of (ss ++ last ∷ [])))
elements_read ss last are is =
    let w = slot_then last [] in
    let x = slots_before ss w in
    let few : length ss ≤ length x = omega (arith, slots_count ss w) in
    let inside : length w ≤ length x = omega (arith, slots_count ss w) in
    let long : length x < length x + 1 = omega arith in
    let short : length w < length x + 1 = omega arith in
    let whole : 0 + length x ≡ length x = omega arith in
    let from : length x - length w + length w ≡ length x = omega arith in
    let P : ℕ → Type 0 = λ m. read_elements (length x + 1) m nothing_seen 0 x ≡ Ok (see_all nothing_seen (elements_of (ss ++ last ∷ []))) in
    subst P (fuel (length x) ss few)
    (slots_prefix ss (length x + 1) (length x) 0 (suc (length x - length ss)) nothing_seen w are long whole
    ∙ last_read (length x + 1) (length x) (length x - length w) (length x - length ss) (see_slots nothing_seen ss) last is short from
    ∙ ap Ok (sym (see_slots_append ss last nothing_seen) ∙ see_slots_elements (ss ++ last ∷ []) nothing_seen))

-- an element that is refused begins behind the slots
pub refused_element_read : (ss : List Slot) (front y : List ℕ) (q : ℕ) (r : AltRefusal) → AreSlots ss → AllIn is_blank front → (BeginsIn is_blank y → ⊥) → 0 < length y → begins_with 44 y ≡ false
    → ((most p : ℕ) → length y < most → p + length y ≡ length (slots_before ss (front ++ y)) → (more : Seen → ℕ → List ℕ → Result Seen (At AltRefusal)) (seen : Seen) → then_elements more (element_seen seen (read_element most p y)) ≡ refused q r)
    → let x = slots_before ss (front ++ y) in read_elements (length x + 1) (length x + 1) nothing_seen 0 x ≡ refused q r
refused_element_read ss front y q r are valid no_blank some no_comma says =
    let w = front ++ y in
    let x = slots_before ss w in
    let n = length x in
    let few : length ss ≤ n = omega (arith, slots_count ss w) in
    let inside : length w ≤ n = omega (arith, slots_count ss w) in
    let long : n < n + 1 = omega arith in
    let short : length y < n + 1 = omega (arith, length-append front y) in
    let whole : 0 + n ≡ n = omega arith in
    let from : n - length w + length w ≡ n = omega arith in
    let there : n - length y + length y ≡ n = omega (arith, length-append front y) in
    let behind = blanks_end front y valid no_blank in
    let here : read_blanks (n - length w) w ≡ n - length y = blanks_place n (n - length w) w from ∙ ap (λ xs. n - length xs) behind in
    let seen = see_slots nothing_seen ss in
    let more = read_elements (n + 1) (n - length ss) in
    let P : ℕ → Type 0 = λ m. read_elements (n + 1) m nothing_seen 0 x ≡ refused q r in
    let turn : read_elements (n + 1) (suc (n - length ss)) seen (n - length w) w ≡ then_elements more (seen_element (n + 1) seen (n - length y) y) = rw (behind, here) refl in
    subst P (fuel n ss few)
    (slots_prefix ss (n + 1) n 0 (suc (n - length ss)) nothing_seen w are long whole
    ∙ turn ∙ ap (then_elements more) (seen_at (n + 1) seen (n - length y) y some no_comma) ∙ says (n + 1) (n - length y) short there more seen)
