-- The priority and the target in front of a record's text.
use Rattle.std.proofs.Common.{◌≡◌, ◌≢◌, ◌⊎◌, ℕ, ◌+◌, ◌≤◌, Bool, true, false, cond, nat_eq, nat_le, nat_lt, List, [], ◌∷◌, ◌++◌, length, Option, Some, None, Ok, refl, ap, sym, ◌∙◌, subst, arith, inl, inr}
use Rattle.std.specs.Char.{is_ascii_digit, is_ascii_graphic}
use Rattle.std.specs.Int.{IsInRange}
use Rattle.std.specs.Str.Parse.{AllDigits, IsNumeral}
use Rattle.std.proofs.lemmas.Bool.Decides.{nat_tests}
use Rattle.std.proofs.lemmas.List.{append_assoc, length-append}
use Rattle.std.proofs.lemmas.Str.Parse.{digit_from_value}
use Rattle.field_text.specs.BlanksGrammar.{is_blank}
use Rattle.field_text.specs.BlanksReading.{read_blanks, after_blanks}
use Rattle.field_text.specs.DeltaGrammar.{SpellsDelta}
use Rattle.field_text.specs.DeltaReading.{read_delta_seconds}
use Rattle.field_text.specs.Runs.{AllIn, BeginsIn, run_of, after_run}
use Rattle.field_text.proofs.DeltaLemmas.{says_some, delta_spelled}
use Rattle.field_text.proofs.RunLemmas.{run_of-append, after_run-append, AllIn-append}
use Rattle.dns_names.specs.TextGrammar.{SpellsText}
use Rattle.dns_names.specs.TextParts.{Part, Raw, Quoted, Decimal, part_text, parts_text, IsPart, AreParts, dotted, AreAllParts}
use Rattle.dns_names.specs.TextReading.{read_text}
use Rattle.dns_names.proofs.TextSpelled.{spelled_reads as name_reads}
use Rattle.alt_base.proofs.Numbers.{eq_false, lt_false, le_true, true_le}
use Rattle.svcb_values.specs.StringGrammar.{EndsItem}
use Rattle.svcb_text.specs.TextGrammar.{SpellsPriority, Front, front_text, SpellsFront}
use Rattle.svcb_text.specs.TextReading.{item_of, after_item, priority_of, by_priority, from_priority, by_target, behind_priority, with_params, read_params, read_record_text}
use Rattle.svcb_text.proofs.Items.{no_blank, item_is, rest_is, ends_with_blanks}

above_blanks : (b : ℕ) → 33 ≤ b → no_blank b ≡ true
above_blanks b h =
    let p : nat_eq b 32 ≡ false = eq_false b 32 (λ e. absurd (omega arith)) in
    let q : nat_eq b 9 ≡ false = eq_false b 9 (λ e. absurd (omega arith)) in
    rw (p, q) refl

graphic_above : (b : ℕ) → is_ascii_graphic b ≡ true → 33 ≤ b
graphic_above b h = grind (arith, nat_tests)

digit_above : (b : ℕ) → is_ascii_digit b ≡ true → 33 ≤ b
digit_above b h = grind (arith, nat_tests)

pub numeral_shown : (x : List ℕ) → AllDigits 10 x → AllIn no_blank x
numeral_shown [] h = tt
numeral_shown (b ∷ bs) h =
    let range : IsInRange 48 57 b = digit_from_value b h.0 in
    (above_blanks b (omega arith), numeral_shown bs h.1)

part_shown : (part : Part) → IsPart part → AllIn no_blank (part_text part)
part_shown (Raw b) h = (above_blanks b (graphic_above b h.0), tt)
part_shown (Quoted b) h = (refl, (above_blanks b (graphic_above b h.0), tt))
part_shown (Decimal a b c) h = (refl, (above_blanks a (digit_above a h.0), (above_blanks b (digit_above b h.1), (above_blanks c (digit_above c h.2), tt))))

parts_shown : (parts : List Part) → AreParts parts → AllIn no_blank (parts_text parts)
parts_shown [] h = tt
parts_shown (part ∷ parts) h = AllIn-append no_blank (part_text part) (parts_text parts) (part_shown part h.0) (parts_shown parts h.1)

dotted_shown : (labels : List (List Part)) → AreAllParts labels → AllIn no_blank (dotted labels)
dotted_shown [] h = tt
dotted_shown (parts ∷ labels) h = AllIn-append no_blank (parts_text parts) (46 ∷ dotted labels) (parts_shown parts h.0) (refl, dotted_shown labels h.1)

dot_shown : (end : List ℕ) → (end ≡ []) ⊎ (end ≡ 46 ∷ []) → AllIn no_blank end
dot_shown end (inl e) = subst (AllIn no_blank) (sym e) tt
dot_shown end (inr e) = subst (AllIn no_blank) (sym e) (refl, tt)

-- no blank stands in a name's text
pub name_shown : (x : List ℕ) (name : List (List ℕ)) → SpellsText x name → AllIn no_blank x
name_shown x name (inl root) = subst (AllIn no_blank) (sym root.0) (refl, tt)
name_shown x name (inr s) =
    subst (AllIn no_blank) (sym s.text) (AllIn-append no_blank (dotted s.labels) (parts_text s.last ++ s.end) (dotted_shown s.labels s.valid) (AllIn-append no_blank (parts_text s.last) s.end (parts_shown s.last s.last_valid) (dot_shown s.end s.final_dot)))

-- the priority that an item writes
pub priority_says : (item : List ℕ) (priority : ℕ) → priority_of (read_delta_seconds item) ≡ Some priority → SpellsPriority item priority
priority_says item priority e = by (read_delta_seconds item) refl e
  where
    small : (s : ℕ) (t : Bool) → nat_le s 65535 ≡ t → read_delta_seconds item ≡ Some s → cond t (Some s) None ≡ Some priority → SpellsPriority item priority
    small s true fits is e =
        let d : SpellsDelta item s = says_some s item (sym is) in
        let same : s ≡ priority = cc in
        let most = true_le s 65535 fits in
        record { numeral = d.digits; value = omega (arith, d.value, same, most); most = omega (arith, same, most) }
    small s false fits is e = cc

    by : (o : Option ℕ) → read_delta_seconds item ≡ o → priority_of o ≡ Some priority → SpellsPriority item priority
    by None is e = cc
    by (Some s) is e = small s (nat_le s 65535) refl is e

pub priority_reads : (item : List ℕ) (priority : ℕ) → SpellsPriority item priority → priority_of (read_delta_seconds item) ≡ Some priority
priority_reads item priority s =
    let d : read_delta_seconds item ≡ Some priority = delta_spelled priority item (record { digits = s.numeral; value = omega (arith, s.value, s.most) }) in
    ap priority_of d ∙ ap (λ t. cond t (Some priority) None) (le_true priority 65535 s.most)

-- the bytes that shown ones begin with
shown_begin : (item rest : List ℕ) → AllIn no_blank item → item ≢ [] → BeginsIn is_blank (item ++ rest) → ⊥
shown_begin [] rest all some h = some refl
shown_begin (b ∷ bs) rest all some h = clash (is_blank b) h all.0
  where
    clash : (t : Bool) → t ≡ true → (elim t as (λ _. Bool) [ true ↦ false | false ↦ true ]) ≡ true → ⊥
    clash true p q = cc
    clash false p q = cc

numeral_some : (x : List ℕ) → IsNumeral 10 x → x ≢ []
numeral_some x h e = absurd (omega (arith, ap length e, h.0))

pub name_some : (x : List ℕ) (name : List (List ℕ)) → SpellsText x name → x ≢ []
name_some x name s e = none (sym (name_reads x name s) ∙ ap read_text e)
  where
    none : Ok name ≡ read_text [] → ⊥
    none h = cc

-- blanks in front are passed over
pub sized_reads : (x before y : List ℕ) → length x ≤ 65535 → x ≡ before ++ y → AllIn is_blank before → (BeginsIn is_blank y → ⊥) → read_record_text x ≡ from_priority (length x) (length before) y
sized_reads x before y short e all stops =
    let small : nat_lt 65535 (length x) ≡ false = lt_false 65535 (length x) short in
    let run : run_of is_blank x ≡ before = ap (run_of is_blank) e ∙ run_of-append is_blank before y all stops in
    let rest : after_blanks x ≡ y = ap (after_run is_blank) e ∙ after_run-append is_blank before y all stops in
    let place : read_blanks 0 x ≡ length before = omega (arith, ap length run) in
    rw small (ap (λ n. from_priority (length x) n (after_blanks x)) place ∙ ap (from_priority (length x) (length before)) rest)

-- so is a priority
number_reads : (size place priority : ℕ) (y digits between rest : List ℕ) → y ≡ digits ++ (between ++ rest) → SpellsPriority digits priority → AllIn is_blank between → EndsItem (between ++ rest) → (BeginsIn is_blank rest → ⊥)
    → from_priority size place y ≡ behind_priority size priority (place + length digits + length between) rest
number_reads size place priority y digits between rest e number blanks ends stops =
    let more = between ++ rest in
    let item : item_of y ≡ digits = item_is y digits more e (numeral_shown digits number.numeral.1) ends in
    let after : after_item y ≡ more = rest_is y digits more e (numeral_shown digits number.numeral.1) ends in
    let run : run_of is_blank more ≡ between = run_of-append is_blank between rest blanks stops in
    let behind : after_blanks more ≡ rest = after_run-append is_blank between rest blanks stops in
    ap (λ xs. by_priority (priority_of (read_delta_seconds xs)) size place y) item
    ∙ ap (λ o. by_priority o size place y) (priority_reads digits priority number)
    ∙ ap (λ xs. behind_priority size priority (read_blanks (place + length xs) (after_item y)) (after_blanks (after_item y))) item
    ∙ ap (λ xs. behind_priority size priority (read_blanks (place + length digits) xs) (after_blanks xs)) after
    ∙ ap (λ xs. behind_priority size priority (place + length digits + length xs) (after_blanks more)) run
    ∙ ap (behind_priority size priority (place + length digits + length between)) behind

pub priority_passed : (x before digits between rest : List ℕ) (priority : ℕ) → length x ≤ 65535 → x ≡ before ++ (digits ++ (between ++ rest)) → AllIn is_blank before → SpellsPriority digits priority → AllIn is_blank between → EndsItem (between ++ rest)
    → (BeginsIn is_blank rest → ⊥) → read_record_text x ≡ behind_priority (length x) priority (length before + length digits + length between) rest
priority_passed x before digits between rest priority short e all number blanks ends stops =
    sized_reads x before (digits ++ (between ++ rest)) short e all (shown_begin digits (between ++ rest) (numeral_shown digits number.numeral.1) (numeral_some digits number.numeral))
    ∙ number_reads (length x) (length before) priority (digits ++ (between ++ rest)) digits between rest refl number blanks ends stops

-- a priority and a target in front of a rest, at a place
pub record Fronted (x : List ℕ) (priority : ℕ) (name : List (List ℕ)) (place : ℕ) (rest : List ℕ) : Type 0 where
  pub front : Front
  pub text : x ≡ front_text front ++ rest
  pub begins : SpellsFront front priority name
  pub ends : EndsItem rest
  pub behind : place ≡ length (front_text front)
  pub short : length x ≤ 65535

-- and so is a target
pub fronted_reads : (x : List ℕ) (priority : ℕ) (name : List (List ℕ)) (place : ℕ) (rest : List ℕ) → Fronted x priority name place rest → read_record_text x ≡ with_params (length x) priority name (read_params place rest)
fronted_reads x priority name place rest h =
    let f = h.front in
    let s = h.begins in
    let y = f.target ++ rest in
    let text : x ≡ f.before ++ (f.digits ++ (f.between ++ y)) = h.text ∙ regroup f.before f.digits f.between f.target rest in
    let shown : AllIn no_blank f.target = name_shown f.target name s.named in
    let item : item_of y ≡ f.target = item_is y f.target rest refl shown h.ends in
    let after : after_item y ≡ rest = rest_is y f.target rest refl shown h.ends in
    let found : read_text (item_of y) ≡ Ok name = ap read_text item ∙ name_reads f.target name s.named in
    let place_is : length f.before + length f.digits + length f.between + length f.target ≡ place = lengths f.before f.digits f.between f.target ∙ sym h.behind in
    let at = length f.before + length f.digits + length f.between in
    priority_passed x f.before f.digits f.between y priority h.short text s.before s.number s.between.all (ends_with_blanks f.between y s.between) (shown_begin f.target rest shown (name_some f.target name s.named))
    ∙ ap (λ r. by_target r (length x) priority at y) found
    ∙ ap (λ xs. with_params (length x) priority name (read_params (at + length xs) (after_item y))) item
    ∙ ap (λ xs. with_params (length x) priority name (read_params (at + length f.target) xs)) after
    ∙ ap (λ n. with_params (length x) priority name (read_params n rest)) place_is
  where
    regroup : (a b c d e : List ℕ) → (a ++ (b ++ (c ++ d))) ++ e ≡ a ++ (b ++ (c ++ (d ++ e)))
    regroup a b c d e = simp append_assoc

    lengths : (a b c d : List ℕ) → length a + length b + length c + length d ≡ length (a ++ (b ++ (c ++ d)))
    lengths a b c d = simp length-append (omega arith)
