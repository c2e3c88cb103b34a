-- Where what follows the name of an answer is refused: its kind, its TTL, and what it brings.
use Rattle.std.proofs.Common.{◌≡◌, ℕ, ◌+◌, false, List, [], ◌∷◌, ◌++◌, length, Option, Some, None, Result, Ok, Err, refl, ap, sym, ◌∙◌, subst, inl, inr}
use Rattle.alt_base.specs.declared.refusal.At.{At}
use Rattle.route_events.specs.declared.answer.AnswerBody.{AnswerBody}
use Rattle.event_lines.specs.AnswerReading.{item_of, body_of, words_behind, Items, items_from, items_reading}
use Rattle.event_lines.specs.EventTexts.{answer_kind_text}
use Rattle.event_lines.specs.Fields.{number_of, answer_kind_of}
use Rattle.event_lines.specs.Limits.{most_ttl}
use Rattle.event_lines.specs.Parts.{Part, Reading, ◌>>=◌, value_or, field}
use Rattle.event_lines.specs.LineReading.{end_reading}
use Rattle.event_lines.specs.WordGrammar.{AreApart, spaced}
use Rattle.event_lines.specs.LineRefusals.{OfNumber, OfAnswerKind, EndsWord, IsNext, IsBadItem, TtlRefusedAt, KindRefusedAt}
use Rattle.event_lines.specs.declared.answer_kind.AnswerKind.{AnswerKind}
use Rattle.event_lines.specs.declared.refusal.LineRefusal.{LineRefusal}
use Rattle.event_lines.specs.declared.refusal.LineRefusal.TheVariants.{BadField}
use Rattle.event_lines.proofs.AnswerItems.{items_err, items_bad}
use Rattle.event_lines.proofs.AnswerWords.{first_word_of, words_back, spaced_of, apart_behind, apart_parts, spaced_append}
use Rattle.event_lines.proofs.FieldTexts.{is_some, form_missed, form_none, answer_kind_sound, kind_itself}
use Rattle.event_lines.proofs.NumberTexts.{number_sound, number_complete}
use Rattle.event_lines.proofs.Refusals.{Passed, passed, bad, same_refusal, refusal_parts}
use Rattle.event_lines.proofs.Spaces.{next_reads, Next, Nothing, More, next_of, spaced_ends}

abbrev part : List ℕ → ℕ → Part
part text place = record { text = text; place = place }

-- what passes: items of a kind, a TTL and such items, a kind and both
abbrev pub pass_items : AnswerKind → Part → Passed
pass_items kind rest = items_reading kind rest >>= λ (body : AnswerBody × Part). end_reading body.1

abbrev behind_ttl : AnswerKind → ℕ × Part → Passed
behind_ttl kind ttl = pass_items kind ttl.1

abbrev pub pass_ttl : AnswerKind → Part → Passed
pass_ttl kind rest = field (number_of most_ttl) rest >>= behind_ttl kind

abbrev behind_answer_kind : AnswerKind × Part → Passed
behind_answer_kind kind = pass_ttl kind.0 kind.1

abbrev pub pass_answer : Part → Passed
pass_answer rest = field answer_kind_of rest >>= behind_answer_kind

-- the items
abbrev all_pass : Items → Passed
all_pass r = r >>= λ (items : List (List ℕ)). passed

items_pass : (kind : AnswerKind) (text : List ℕ) (begin : ℕ) → pass_items kind (part text begin) ≡ all_pass (items_from (item_of kind) begin (words_behind text))
items_pass kind text begin = go (items_from (item_of kind) begin (words_behind text))
  where
    go : (r : Items) → (((r >>= λ (items : List (List ℕ)). let x : Result AnswerBody (At LineRefusal) = Ok (body_of kind items) in x) >>= λ (body : AnswerBody). let x : Reading AnswerBody = Ok (body, part [] (begin + length text)) in x)
        >>= λ (body : AnswerBody × Part). end_reading body.1) ≡ all_pass r
    go (Ok items) = refl
    go (Err at) = refl

item_refused : (kind : AnswerKind) (begin : ℕ) (text : List ℕ) (place : ℕ) (reason : LineRefusal) → IsBadItem kind begin text place reason → pass_items kind (part text begin) ≡ bad place reason
item_refused kind begin text place reason s =
    items_pass kind text begin
    ∙ ap (λ t. all_pass (items_from (item_of kind) begin (words_behind t))) s.spelled
    ∙ ap (λ ws. all_pass (items_from (item_of kind) begin ws)) (words_back s.good (32 ∷ (s.word ++ s.behind)) s.good_apart refl ∙ ap (λ ws. s.good ++ ws) (first_word_of s.word s.behind s.apart s.end))
    ∙ ap all_pass (items_bad kind begin s.good s.items s.word (words_behind s.behind) s.of_good s.bad)
    ∙ same_refusal (begin + length (spaced s.good) + 1) place BadField reason (sym s.at) (sym s.why)

item_says : (kind : AnswerKind) (begin : ℕ) (text : List ℕ) (place : ℕ) (reason : LineRefusal) → EndsWord text → pass_items kind (part text begin) ≡ bad place reason → IsBadItem kind begin text place reason
item_says kind begin text place reason end h = go (items_from (item_of kind) begin (words_behind text)) refl (sym (items_pass kind text begin) ∙ h)
  where
    go : (r : Items) → items_from (item_of kind) begin (words_behind text) ≡ r → all_pass r ≡ bad place reason → IsBadItem kind begin text place reason
    go (Ok items) is e = cc
    go (Err at) is e =
        let same = refusal_parts at.place place at.reason reason e in
        let b = items_err kind begin (words_behind text) at is in
        let both = apart_parts b.good b.word b.more (subst AreApart b.split (apart_behind text)) in
        record {
          good = b.good;
          items = b.items;
          word = b.word;
          behind = spaced b.more;
          spelled = spaced_of text end ∙ ap spaced b.split ∙ spaced_append b.good (b.word ∷ b.more);
          good_apart = both.0;
          apart = both.1;
          end = spaced_ends b.more;
          of_good = b.of_good;
          bad = b.bad;
          at = sym same.0 ∙ b.there;
          why = sym same.1 ∙ b.why;
        }

-- a field, and what stands behind it
abbrev after_value : {A : Type 0} → (A × Part → Passed) → ℕ → List ℕ → List ℕ → Option A → Passed
after_value next begin word behind o = value_or BadField (begin + 1) o >>= λ value. next (value, part behind (begin + 1 + length word))

after_field : {A : Type 0} (read : List ℕ → Option A) (next : A × Part → Passed) (begin : ℕ) (text word behind : List ℕ) → IsNext text word behind → (field read (part text begin) >>= next) ≡ after_value next begin word behind (read word)
after_field {A} read next begin text word behind s =
    ap (λ (r : Reading Part). (r >>= λ (w : Part × Part). value_or BadField w.0.place (read w.0.text) >>= λ (value : A). let x : Reading A = Ok (value, w.1) in x) >>= next) (next_reads BadField text word behind begin s)
    ∙ go (read word)
  where
    go : (o : Option A) → ((value_or BadField (begin + 1) o >>= λ (value : A). let x : Reading A = Ok (value, part behind (begin + 1 + length word)) in x) >>= next) ≡ after_value next begin word behind o
    go None = refl
    go (Some value) = refl

none_from : {A : Type 0} (o : Option A) → is_some o ≡ false → o ≡ None
none_from None h = refl
none_from (Some value) h = cc

-- the TTL
ttl_refused : (kind : AnswerKind) (begin : ℕ) (text : List ℕ) (place : ℕ) (reason : LineRefusal) → TtlRefusedAt kind begin text place reason → pass_ttl kind (part text begin) ≡ bad place reason
ttl_refused kind begin text place reason (inl s) = ap (λ t. pass_ttl kind (part t begin)) s.nothing ∙ same_refusal begin place BadField reason (sym s.at) (sym s.why)
ttl_refused kind begin text place reason (inr (inl s)) =
    after_field (number_of most_ttl) (behind_ttl kind) begin text s.word s.behind s.next
    ∙ ap (after_value (behind_ttl kind) begin s.word s.behind) (none_from (number_of most_ttl s.word) (form_none (OfNumber most_ttl) s.word s.bad))
    ∙ same_refusal (begin + 1) place BadField reason (sym s.at) (sym s.why)
ttl_refused kind begin text place reason (inr (inr s)) =
    after_field (number_of most_ttl) (behind_ttl kind) begin text s.word s.behind s.next
    ∙ ap (after_value (behind_ttl kind) begin s.word s.behind) (number_complete most_ttl s.word s.good.0 s.good.1)
    ∙ item_refused kind (begin + 1 + length s.word) s.behind place reason s.later

ttl_says : (kind : AnswerKind) (begin : ℕ) (text : List ℕ) (place : ℕ) (reason : LineRefusal) → EndsWord text → pass_ttl kind (part text begin) ≡ bad place reason → TtlRefusedAt kind begin text place reason
ttl_says kind begin text place reason end h = go (next_of text end)
  where
    at : (word behind : List ℕ) → IsNext text word behind → (o : Option ℕ) → number_of most_ttl word ≡ o → after_value (behind_ttl kind) begin word behind o ≡ bad place reason → TtlRefusedAt kind begin text place reason
    at word behind s None is e =
        let same = refusal_parts (begin + 1) place BadField reason e in
        inr (inl (record { word = word; behind = behind; next = s; bad = form_missed (OfNumber most_ttl) word (ap is_some is); at = sym same.0; why = sym same.1 }))
    at word behind s (Some n) is e =
        inr (inr (record { word = word; behind = behind; next = s; good = (n, number_sound most_ttl word n is); later = item_says kind (begin + 1 + length word) behind place reason s.end e }))

    go : Next text → TtlRefusedAt kind begin text place reason
    go (Nothing none) =
        let same = refusal_parts begin place BadField reason (sym (ap (λ t. pass_ttl kind (part t begin)) none) ∙ h) in
        inl (record { nothing = none; at = sym same.0; why = sym same.1 })
    go (More word behind s) = at word behind s (number_of most_ttl word) refl (sym (after_field (number_of most_ttl) (behind_ttl kind) begin text word behind s) ∙ h)

-- the kind: what is refused by the table is refused
pub kind_refused : (begin : ℕ) (text : List ℕ) (place : ℕ) (reason : LineRefusal) → KindRefusedAt begin text place reason → pass_answer (part text begin) ≡ bad place reason
kind_refused begin text place reason (inl s) = ap (λ t. pass_answer (part t begin)) s.nothing ∙ same_refusal begin place BadField reason (sym s.at) (sym s.why)
kind_refused begin text place reason (inr (inl s)) =
    after_field answer_kind_of behind_answer_kind begin text s.word s.behind s.next
    ∙ ap (after_value behind_answer_kind begin s.word s.behind) (none_from (answer_kind_of s.word) (form_none OfAnswerKind s.word s.bad))
    ∙ same_refusal (begin + 1) place BadField reason (sym s.at) (sym s.why)
kind_refused begin text place reason (inr (inr s)) =
    after_field answer_kind_of behind_answer_kind begin text (answer_kind_text s.kind) s.behind s.next
    ∙ ap (after_value behind_answer_kind begin (answer_kind_text s.kind) s.behind) (kind_itself s.kind)
    ∙ ttl_refused s.kind (begin + 1 + length (answer_kind_text s.kind)) s.behind place reason s.later

-- and what is refused is refused by the table
pub kind_says : (begin : ℕ) (text : List ℕ) (place : ℕ) (reason : LineRefusal) → EndsWord text → pass_answer (part text begin) ≡ bad place reason → KindRefusedAt begin text place reason
kind_says begin text place reason end h = go (next_of text end)
  where
    at : (word behind : List ℕ) → IsNext text word behind → (o : Option AnswerKind) → answer_kind_of word ≡ o → after_value behind_answer_kind begin word behind o ≡ bad place reason → KindRefusedAt begin text place reason
    at word behind s None is e =
        let same = refusal_parts (begin + 1) place BadField reason e in
        inr (inl (record { word = word; behind = behind; next = s; bad = form_missed OfAnswerKind word (ap is_some is); at = sym same.0; why = sym same.1 }))
    at word behind s (Some kind) is e =
        let named = answer_kind_sound word kind is in
        inr (inr (record {
          kind = kind;
          behind = behind;
          next = subst (λ w. IsNext text w behind) named s;
          later = ttl_says kind (begin + 1 + length (answer_kind_text kind)) behind place reason s.end (sym (ap (λ w. pass_ttl kind (part behind (begin + 1 + length w))) named) ∙ e);
        }))

    go : Next text → KindRefusedAt begin text place reason
    go (Nothing none) =
        let same = refusal_parts begin place BadField reason (sym (ap (λ t. pass_answer (part t begin)) none) ∙ h) in
        inl (record { nothing = none; at = sym same.0; why = sym same.1 })
    go (More word behind s) = at word behind s (answer_kind_of word) refl (sym (after_field answer_kind_of behind_answer_kind begin text word behind s) ∙ h)
