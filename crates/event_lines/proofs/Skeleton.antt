-- Where a line is refused, without the values of its fields: the forms of the fields alone decide.
use Rattle.std.proofs.Common.{◌≡◌, ℕ, ◌+◌, Bool, true, false, cond, nat_eq, List, [], ◌∷◌, length, Option, None, Some, Ok, Err, refl, ap, sym, ◌∙◌, inl, inr}
use Rattle.std.specs.Cmp.Lexicographic.{pointwise}
use Rattle.event_lines.specs.Parts.{Part, Reading, ◌>>=◌, next_word, value_or, field, refused}
use Rattle.event_lines.specs.LineReading.{end_reading}
use Rattle.event_lines.specs.LineRefusals.{Form, Forms, NoMore, Then, StatusAndFields, KindAndItems, ValueToEnd, Kind, EndsWord, IsNext, FieldsRefusedAt}
use Rattle.event_lines.specs.declared.event.Event.{Event}
use Rattle.event_lines.specs.declared.refusal.LineRefusal.{LineRefusal}
use Rattle.event_lines.specs.declared.refusal.LineRefusal.TheVariants.{UnknownKind, BadField, ExtraField}
use Rattle.event_lines.proofs.AnswerTexts.{pass_answer, kind_refused, kind_says}
use Rattle.event_lines.proofs.FieldTexts.{is_some, has_form, form_sound, form_complete, form_missed, form_none}
use Rattle.event_lines.proofs.Spaces.{next_reads, Next, Nothing, More, next_of}
use Rattle.event_lines.proofs.Refusals.{Passed, bad, same_refusal, refusal_parts}
use Rattle.event_lines.proofs.ResponseTexts.{pass_status, status_refused, status_says}
use Rattle.event_lines.proofs.ServerValues.{pass_value, value_refused, value_says}

-- fields of these forms, and nothing behind them
abbrev pub pass_fields : Forms → Part → Passed
pass_fields NoMore rest = end_reading rest
pass_fields StatusAndFields rest = pass_status rest
pass_fields KindAndItems rest = pass_answer rest
pass_fields ValueToEnd rest = pass_value rest
pass_fields (Then form forms) rest = next_word BadField rest >>= λ (word : Part × Part). cond (has_form form word.0.text) (pass_fields forms word.1) (refused word.0.place BadField)

-- a reading, and nothing behind it
abbrev pub ended : {A : Type 0} → Reading A → Passed
ended reading = reading >>= λ read. end_reading read.1

pub ended_field : {A B : Type 0} (form : Form) (read : List ℕ → Option A) (next : A × Part → Reading B) (forms : Forms) (rest : Part) → ((word : List ℕ) → has_form form word ≡ is_some (read word))
    → ((value : A) (left : Part) → ended (next (value, left)) ≡ pass_fields forms left) → ended (field read rest >>= next) ≡ pass_fields (Then form forms) rest
ended_field {A} {B} form read next forms rest same later = go (next_word BadField rest)
  where
    at : (word : Part × Part) (o : Option A) → ended ((value_or BadField word.0.place o >>= λ value. let x : Reading A = Ok (value, word.1) in x) >>= next)
        ≡ cond (is_some o) (pass_fields forms word.1) (refused word.0.place BadField)
    at word None = refl
    at word (Some value) = later value word.1

    go : (r : Reading Part) → ended ((r >>= λ (word : Part × Part). value_or BadField word.0.place (read word.0.text) >>= λ value. let x : Reading A = Ok (value, word.1) in x) >>= next)
        ≡ (r >>= λ (word : Part × Part). cond (has_form form word.0.text) (pass_fields forms word.1) (refused word.0.place BadField))
    go (Err why) = refl
    go (Ok word) = at word (read word.0.text) ∙ ap (λ t. cond t (pass_fields forms word.1) (refused word.0.place BadField)) (sym (same word.0.text))

abbrev part : List ℕ → ℕ → Part
part text place = record { text = text; place = place }

-- one field, and those behind it
one_field : (form : Form) (forms : Forms) (begin : ℕ) (text word behind : List ℕ) → IsNext text word behind
    → pass_fields (Then form forms) (part text begin) ≡ cond (has_form form word) (pass_fields forms (part behind (begin + 1 + length word))) (bad (begin + 1) BadField)
one_field form forms begin text word behind s =
    ap (λ (r : Reading Part). r >>= λ (w : Part × Part). cond (has_form form w.0.text) (pass_fields forms w.1) (refused w.0.place BadField)) (next_reads BadField text word behind begin s)

-- what is refused by its forms is refused so
pub fields_refused : (forms : Forms) (begin : ℕ) (text : List ℕ) (place : ℕ) (reason : LineRefusal) → FieldsRefusedAt forms begin text place reason → pass_fields forms (part text begin) ≡ bad place reason
fields_refused NoMore begin [] place reason s = absurd (s.more refl)
fields_refused StatusAndFields begin text place reason s = status_refused begin text place reason s
fields_refused KindAndItems begin text place reason s = kind_refused begin text place reason s
fields_refused ValueToEnd begin text place reason s = value_refused begin text place reason s
fields_refused NoMore begin (b ∷ bs) place reason s = same_refusal (begin + 1) place ExtraField reason (sym s.at) (sym s.why)
fields_refused (Then form forms) begin text place reason (inl s) =
    ap (λ t. pass_fields (Then form forms) (part t begin)) s.nothing ∙ same_refusal begin place BadField reason (sym s.at) (sym s.why)
fields_refused (Then form forms) begin text place reason (inr (inl s)) =
    one_field form forms begin text s.word s.behind s.next
    ∙ ap (λ t. cond t (pass_fields forms (part s.behind (begin + 1 + length s.word))) (bad (begin + 1) BadField)) (form_none form s.word s.bad)
    ∙ same_refusal (begin + 1) place BadField reason (sym s.at) (sym s.why)
fields_refused (Then form forms) begin text place reason (inr (inr s)) =
    one_field form forms begin text s.word s.behind s.next
    ∙ ap (λ t. cond t (pass_fields forms (part s.behind (begin + 1 + length s.word))) (bad (begin + 1) BadField)) (form_complete form s.word s.good)
    ∙ fields_refused forms (begin + 1 + length s.word) s.behind place reason s.later

-- and the other way round
pub fields_say : (forms : Forms) (begin : ℕ) (text : List ℕ) (place : ℕ) (reason : LineRefusal) → EndsWord text → pass_fields forms (part text begin) ≡ bad place reason → FieldsRefusedAt forms begin text place reason
fields_say StatusAndFields begin text place reason end h = status_says begin text place reason end h
fields_say KindAndItems begin text place reason end h = kind_says begin text place reason end h
fields_say ValueToEnd begin text place reason end h = value_says begin text place reason end h
fields_say NoMore begin [] place reason end h = cc
fields_say NoMore begin (b ∷ bs) place reason end h =
    let same = refusal_parts (begin + 1) place ExtraField reason h in
    record { more = λ e. cc; at = sym same.0; why = sym same.1 }
fields_say (Then form forms) begin text place reason end h = go (λ n t e k. fields_say forms n t place reason e k) (next_of text end)
  where
    go : ((n : ℕ) (t : List ℕ) → EndsWord t → pass_fields forms (part t n) ≡ bad place reason → FieldsRefusedAt forms n t place reason) → Next text → FieldsRefusedAt (Then form forms) begin text place reason
    go later (Nothing none) =
        let same = refusal_parts begin place BadField reason (sym (ap (λ t. pass_fields (Then form forms) (part t begin)) none) ∙ h) in
        inl (record { nothing = none; at = sym same.0; why = sym same.1 })
    go later (More word behind s) = at (has_form form word) refl (sym (one_field form forms begin text word behind s) ∙ h)
      where
        at : (t : Bool) → has_form form word ≡ t → cond t (pass_fields forms (part behind (begin + 1 + length word))) (bad (begin + 1) BadField) ≡ bad place reason
            → FieldsRefusedAt (Then form forms) begin text place reason
        at true is e = inr (inr (record { word = word; behind = behind; next = s; good = form_sound form word is; later = later (begin + 1 + length word) behind s.end e }))
        at false is e =
            let same = refusal_parts (begin + 1) place BadField reason e in
            inr (inl (record { word = word; behind = behind; next = s; bad = form_missed form word is; at = sym same.0; why = sym same.1 }))

abbrev pub says : Event → Part → Reading Event
says event left = Ok (event, left)

pub choice : (t : Bool) (a b : Reading Event) (c d : Passed) → ended a ≡ c → ended b ≡ d → ended (cond t a b) ≡ cond t c d
choice true a b c d h k = h
choice false a b c d h k = k

-- the fields of the first kind of this name
abbrev pub pass_kind : List Kind → Part → Part → Passed
pass_kind [] name rest = refused name.place UnknownKind
pass_kind (kind ∷ more) name rest = cond (pointwise nat_eq name.text kind.name) (pass_fields kind.forms rest) (pass_kind more name rest)
