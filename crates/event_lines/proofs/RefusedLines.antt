-- The refusals of lines against their table.
use Rattle.std.proofs.Common.{◌≡◌, ◌≢◌, ◌⊎◌, ℕ, ◌+◌, Bool, true, false, cond, nat_eq, List, [], ◌∷◌, ◌++◌, length, Option, Some, None, Ok, Err, append-nil, refl, ap, sym, ◌∙◌, subst, inl, inr}
use Rattle.std.specs.Cmp.Lexicographic.{pointwise, same_text, other_text}
use Rattle.alt_base.specs.declared.refusal.At.{At}
use Rattle.event_lines.specs.EventTexts.{answer_kind_text}
use Rattle.event_lines.specs.Fields.{number_of}
use Rattle.event_lines.specs.Limits.{most_short}
use Rattle.event_lines.specs.Parts.{Part}
use Rattle.event_lines.specs.LineReading.{kind_reading, line_reading}
use Rattle.event_lines.specs.LineGrammar.{SpellsLine}
use Rattle.event_lines.specs.WordGrammar.{SpellsNumber}
use Rattle.event_lines.specs.LineRefusals.{EndsWord, IsNext, Forms, NoMore, Then, StatusAndFields, KindAndItems, ValueToEnd, Kind, kinds, IsAmong, IsNone, TtlRefusedAt, FieldsRefusedAt, IsOtherKind, IsWrongField, LineRefusedAt, OneLine}
use Rattle.event_lines.specs.declared.answer_kind.AnswerKind.{AnswerKind}
use Rattle.event_lines.specs.declared.event.Event.{Event}
use Rattle.event_lines.specs.declared.event.Event.TheVariants.{Skip}
use Rattle.event_lines.specs.declared.refusal.LineRefusal.{LineRefusal}
use Rattle.event_lines.specs.declared.refusal.LineRefusal.TheVariants.{BadMoment, UnknownKind, BadField, ExtraField}
use Rattle.event_lines.proofs.NumberTexts.{number_sound, number_complete}
use Rattle.event_lines.proofs.Refusals.{bad, refusal_parts}
use Rattle.event_lines.proofs.Skeleton.{pass_fields, fields_refused, fields_say, pass_kind}
use Rattle.event_lines.proofs.KindsPass.{kinds_pass}
use Rattle.event_lines.proofs.LineCases.{Said, part, bad_line, said, whole, skip_reads, no_moment, with_moment, with_kind, no_kind, Kinded, Line, Skipped, Wordless, Alone, Full, line_of}
use Rattle.event_lines.proofs.Lines.{said_parts, said_err, at_place, whole_refused, whole_says, line_sound, line_complete}
use Rattle.alt_base.proofs.Lists.{text_true}

refused_parts : (p q : ℕ) (r s : LineRefusal) → bad_line p r ≡ bad_line q s → (p ≡ q) × (r ≡ s)
refused_parts p q r s e =
    let h = said_err (at_place p r) (at_place q s) e in (ap (λ (x : At LineRefusal). x.place) h, ap (λ (x : At LineRefusal). x.reason) h)

other_name : (name kind : List ℕ) → name ≢ kind → pointwise nat_eq name kind ≡ false
other_name name kind other = go (pointwise nat_eq name kind) refl
  where
    go : (t : Bool) → pointwise nat_eq name kind ≡ t → t ≡ false
    go true is = absurd (other (same_text name kind (sym is)))
    go false is = refl

none_pass : (kinds : List Kind) (name : List ℕ) (p : ℕ) (rest : Part) → IsNone kinds name → pass_kind kinds (part name p) rest ≡ bad p UnknownKind
none_pass [] name p rest h = refl
none_pass (kind ∷ more) name p rest h =
    ap (λ t. cond t (pass_fields kind.forms rest) (pass_kind more (part name p) rest)) (other_name name kind.name h.0) ∙ none_pass more name p rest h.1

among_pass : (kinds : List Kind) (name : List ℕ) (forms : Forms) (p : ℕ) (rest : Part) → IsAmong kinds name forms → pass_kind kinds (part name p) rest ≡ pass_fields forms rest
among_pass [] name forms p rest h = absurd h
among_pass (kind ∷ more) name forms p rest (inl h) =
    ap (λ t. cond t (pass_fields kind.forms rest) (pass_kind more (part name p) rest)) (text_true name kind.name h.0) ∙ ap (λ f. pass_fields f rest) (sym h.1)
among_pass (kind ∷ more) name forms p rest (inr h) =
    ap (λ t. cond t (pass_fields kind.forms rest) (pass_kind more (part name p) rest)) (other_name name kind.name h.0) ∙ among_pass more name forms p rest h.1

-- a name is that of a kind, or of none
record Known (kinds : List Kind) (name : List ℕ) : Type 0 where
  forms : Forms
  among : IsAmong kinds name forms

known : (kinds : List Kind) (name : List ℕ) → Known kinds name ⊎ IsNone kinds name
known [] name = inr tt
known (kind ∷ more) name = go (pointwise nat_eq name kind.name) refl (known more name)
  where
    go : (t : Bool) → pointwise nat_eq name kind.name ≡ t → Known more name ⊎ IsNone more name → Known (kind ∷ more) name ⊎ IsNone (kind ∷ more) name
    go true is rest = inl (record { forms = kind.forms; among = inl (same_text name kind.name (sym is), refl) })
    go false is (inl k) = inl (record { forms = k.forms; among = inr (other_text name kind.name (sym is), k.among) })
    go false is (inr k) = inr (other_text name kind.name (sym is), k)

no_number : (most : ℕ) (text : List ℕ) → ((n : ℕ) → ¬ (SpellsNumber most text n)) → number_of most text ≡ None
no_number most text none = go (number_of most text) refl
  where
    go : (o : Option ℕ) → number_of most text ≡ o → o ≡ None
    go None is = refl
    go (Some n) is = absurd (none n (number_sound most text n is))

bad_number : (most : ℕ) (text : List ℕ) → number_of most text ≡ None → (n : ℕ) → ¬ (SpellsNumber most text n)
bad_number most text none n s = clash (sym none ∙ number_complete most text n s)
  where
    clash : None ≡ Some n → ⊥
    clash e = cc

next_ends : (text name behind : List ℕ) → IsNext text name behind → EndsWord text
next_ends text name behind s = subst EndsWord (sym s.spelled) refl

-- a line with a kind
kinded : (line moment text name behind : List ℕ) (now place : ℕ) (reason : LineRefusal) → line ≡ moment ++ text → SpellsNumber most_short moment now → IsNext text name behind
    → pass_kind kinds (part name (length moment + 1)) (part behind (length moment + 1 + length name)) ≡ bad place reason → line_reading line ≡ bad_line place reason
kinded line moment text name behind now place reason is of_moment s h =
    with_moment line moment text now is of_moment (next_ends text name behind s)
    ∙ with_kind now (length moment) text name behind s
    ∙ whole_refused now (kind_reading (part name (length moment + 1)) (part behind (length moment + 1 + length name))) place reason
    (kinds_pass (part name (length moment + 1)) (part behind (length moment + 1 + length name)) ∙ h)

wrong_field : (line : List ℕ) (place : ℕ) (reason : LineRefusal) → IsWrongField line place reason → line_reading line ≡ bad_line place reason
wrong_field line place reason s =
    kinded line s.moment s.text s.name s.behind s.now place reason s.spelled s.of_moment s.next
    (among_pass kinds s.name s.forms (length s.moment + 1) (part s.behind (length s.moment + 1 + length s.name)) s.among
    ∙ fields_refused s.forms (length s.moment + 1 + length s.name) s.behind place reason s.fields)

-- what is refused by the table is refused
pub line_refused : (line : List ℕ) (place : ℕ) (reason : LineRefusal) → LineRefusedAt line place reason → line_reading line ≡ bad_line place reason
line_refused line place BadMoment s =
    no_moment line s.word s.behind s.front s.not_skipped (no_number most_short s.word s.bad) ∙ ap (λ p. bad_line p BadMoment) (sym s.at)
line_refused line place UnknownKind (inl s) =
    with_moment line line [] s.now (sym (append-nil line)) s.of_moment tt ∙ no_kind s.now (length line) [] refl ∙ ap (λ p. bad_line p UnknownKind) (sym s.at)
line_refused line place UnknownKind (inr s) =
    kinded line s.moment s.text s.name s.behind s.now (length s.moment + 1) UnknownKind s.spelled s.of_moment s.next
    (none_pass kinds s.name (length s.moment + 1) (part s.behind (length s.moment + 1 + length s.name)) s.none)
    ∙ ap (λ p. bad_line p UnknownKind) (sym s.at)
line_refused line place BadField s = wrong_field line place BadField s
line_refused line place ExtraField s = wrong_field line place ExtraField s

-- fields are refused for two reasons alone, and a TTL and what stands behind it for one
ttl_reason : (kind : AnswerKind) (begin : ℕ) (text : List ℕ) (place : ℕ) (reason : LineRefusal) → TtlRefusedAt kind begin text place reason → reason ≡ BadField
ttl_reason kind begin text place reason (inl s) = s.why
ttl_reason kind begin text place reason (inr (inl s)) = s.why
ttl_reason kind begin text place reason (inr (inr s)) = s.later.why

field_reason : (forms : Forms) (begin : ℕ) (text : List ℕ) (place : ℕ) (reason : LineRefusal) → FieldsRefusedAt forms begin text place reason → (reason ≡ BadField) ⊎ (reason ≡ ExtraField)
field_reason NoMore begin text place reason s = inr s.why
field_reason StatusAndFields begin text place reason (inl s) = inl s.why
field_reason StatusAndFields begin text place reason (inr (inl s)) = inl s.why
field_reason StatusAndFields begin text place reason (inr (inr (inl s))) = inr s.why
field_reason StatusAndFields begin text place reason (inr (inr (inr s))) = inl s.why
field_reason KindAndItems begin text place reason (inl s) = inl s.why
field_reason KindAndItems begin text place reason (inr (inl s)) = inl s.why
field_reason KindAndItems begin text place reason (inr (inr s)) = inl (ttl_reason s.kind (begin + 1 + length (answer_kind_text s.kind)) s.behind place reason s.later)
field_reason ValueToEnd begin text place reason (inl s) = inl s.why
field_reason ValueToEnd begin text place reason (inr s) = inl s.why
field_reason (Then form forms) begin text place reason (inl s) = inl s.why
field_reason (Then form forms) begin text place reason (inr (inl s)) = inl s.why
field_reason (Then form forms) begin text place reason (inr (inr s)) = field_reason forms (begin + 1 + length s.word) s.behind place reason s.later

as_table : (line : List ℕ) (place : ℕ) (reason : LineRefusal) → (reason ≡ BadField) ⊎ (reason ≡ ExtraField) → IsWrongField line place reason → LineRefusedAt line place reason
as_table line place BadField why s = s
as_table line place ExtraField why s = s
as_table line place BadMoment (inl why) s = cc
as_table line place BadMoment (inr why) s = cc
as_table line place UnknownKind (inl why) s = cc
as_table line place UnknownKind (inr why) s = cc

moved : (line : List ℕ) (p q : ℕ) (r s : LineRefusal) → bad_line p r ≡ bad_line q s → LineRefusedAt line p r → LineRefusedAt line q s
moved line p q r s e h =
    let same = refused_parts p q r s e in
    subst (λ n. LineRefusedAt line n s) same.0 (subst (λ w. LineRefusedAt line p w) same.1 h)

full_refusal : (line : List ℕ) (place : ℕ) (reason : LineRefusal) (s : Kinded line) → line_reading line ≡ bad_line place reason → LineRefusedAt line place reason
full_refusal line place reason s h = go (known kinds s.name)
  where
    reads : line_reading line ≡ whole s.now (kind_reading (part s.name (length s.moment + 1)) (part s.behind (length s.moment + 1 + length s.name)))
    reads = with_moment line s.moment s.text s.now s.spelled s.of_moment (next_ends s.text s.name s.behind s.next) ∙ with_kind s.now (length s.moment) s.text s.name s.behind s.next

    passes : pass_kind kinds (part s.name (length s.moment + 1)) (part s.behind (length s.moment + 1 + length s.name)) ≡ bad place reason
    passes = sym (kinds_pass (part s.name (length s.moment + 1)) (part s.behind (length s.moment + 1 + length s.name)))
        ∙ whole_says s.now (kind_reading (part s.name (length s.moment + 1)) (part s.behind (length s.moment + 1 + length s.name))) place reason (sym reads ∙ h)

    go : Known kinds s.name ⊎ IsNone kinds s.name → LineRefusedAt line place reason
    go (inl k) =
        let fields = fields_say k.forms (length s.moment + 1 + length s.name) s.behind place reason s.next.end
        (sym (among_pass kinds s.name k.forms (length s.moment + 1) (part s.behind (length s.moment + 1 + length s.name)) k.among) ∙ passes) in
        let wrong : IsWrongField line place reason = record {
          moment = s.moment;
          text = s.text;
          name = s.name;
          behind = s.behind;
          forms = k.forms;
          now = s.now;
          spelled = s.spelled;
          of_moment = s.of_moment;
          next = s.next;
          among = k.among;
          fields = fields;
        } in
        as_table line place reason (field_reason k.forms (length s.moment + 1 + length s.name) s.behind place reason fields) wrong
    go (inr k) =
        let same = refusal_parts (length s.moment + 1) place UnknownKind reason (sym (none_pass kinds s.name (length s.moment + 1) (part s.behind (length s.moment + 1 + length s.name)) k) ∙ passes) in
        let other : IsOtherKind line (length s.moment + 1) = record {
          moment = s.moment;
          text = s.text;
          name = s.name;
          behind = s.behind;
          now = s.now;
          spelled = s.spelled;
          of_moment = s.of_moment;
          next = s.next;
          none = k;
          at = refl;
        } in
        let table : LineRefusedAt line (length s.moment + 1) UnknownKind = inr other in
        subst (λ n. LineRefusedAt line n reason) same.0 (subst (λ w. LineRefusedAt line (length s.moment + 1) w) same.1 table)

-- what is refused is refused by the table
pub line_says : (line : List ℕ) (place : ℕ) (reason : LineRefusal) → line_reading line ≡ bad_line place reason → LineRefusedAt line place reason
line_says line place reason h = go (line_of line)
  where
    clash : said 0 Skip ≡ bad_line place reason → ⊥
    clash e = cc

    go : Line line → LineRefusedAt line place reason
    go (Skipped s) = absurd (clash (sym (skip_reads line s) ∙ h))
    go (Wordless s) =
        moved line 0 place BadMoment reason (sym (no_moment line s.word s.behind s.front s.not_skipped s.none) ∙ h)
        (record { word = s.word; behind = s.behind; front = s.front; not_skipped = s.not_skipped; bad = bad_number most_short s.word s.none; at = refl })
    go (Alone s) =
        moved line (length line) place UnknownKind reason (sym (with_moment line line [] s.now (sym (append-nil line)) s.of_moment tt ∙ no_kind s.now (length line) [] refl) ∙ h)
        (inl (record { now = s.now; of_moment = s.of_moment; at = refl }))
    go (Full s) = full_refusal line place reason s h

either : (line : List ℕ) (r : Said) → line_reading line ≡ r → ((now : ℕ) × (event : Event) × SpellsLine line now event) ⊎ ((place : ℕ) × (reason : LineRefusal) × LineRefusedAt line place reason)
either line (Ok read) is = inl (read.0, read.1, line_sound line read.0 read.1 is)
either line (Err at) is = inr (at.place, at.reason, line_says line at.place at.reason is)

pub one_line_of : (line : List ℕ) → OneLine line
one_line_of line = record {
  some = either line (line_reading line) refl;
  one_event = λ m n a b h k. said_parts m n a b (sym (line_complete line m a h) ∙ line_complete line n b k);
  one_refusal = λ p q r s h k. refused_parts p q r s (sym (line_refused line p r h) ∙ line_refused line q s k);
  not_both = λ now event place reason h k. clash now event place reason (sym (line_complete line now event h) ∙ line_refused line place reason k);
}
  where
    clash : (now : ℕ) (event : Event) (place : ℕ) (reason : LineRefusal) → said now event ≡ bad_line place reason → ⊥
    clash now event place reason e = cc
