-- The reading of a status and of the fields behind it against their grammar.
use Rattle.std.proofs.Common.{◌≡◌, ◌⊎◌, ℕ, ◌+◌, ◌≤◌, Bool, true, false, cond, not, List, [], ◌∷◌, ◌++◌, length, Option, Some, None, Result, Ok, Err, append_assoc, append-nil, refl, ap, sym, ◌∙◌, subst, arith, inl, inr}
use Rattle.std.specs.Char.{is_ascii_digit}
use Rattle.std.proofs.lemmas.Bool.{and_from}
use Rattle.alt_base.proofs.Numbers.{true_eq}
use Rattle.alt_base.specs.declared.refusal.At.{At}
use Rattle.field_text.specs.Runs.{AllIn, BeginsIn, run_of, after_run}
use Rattle.field_text.proofs.RunLemmas.{longest_run, run_of-append, after_run-append}
use Rattle.alt_base.proofs.Digits.{digits_all}
use Rattle.event_lines.specs.Fields.{status_of}
use Rattle.event_lines.specs.Parts.{Part, is_space, refused, Reading, ◌>>=◌, value_or}
use Rattle.event_lines.specs.LineReading.{end_reading}
use Rattle.event_lines.specs.LineGrammar.{SpellsStatus}
use Rattle.event_lines.specs.LineRefusals.{EndsWord, IsStatusWord, IsBadResponseField, StatusRefusedAt}
use Rattle.event_lines.specs.ResponseGrammar.{Field, is_tab, is_field_byte, is_word_byte, SpellsField, SpellFields, tabbed, most_fields}
use Rattle.event_lines.specs.ResponseReading.{short_word_behind, next_short_word, status_reading, field_texts, fields_from, reply_of, reply_reading}
use Rattle.event_lines.specs.declared.event.Event.{Event}
use Rattle.event_lines.specs.declared.response.Reply.{Reply}
use Rattle.event_lines.specs.declared.refusal.LineRefusal.{LineRefusal}
use Rattle.event_lines.specs.declared.refusal.LineRefusal.TheVariants.{BadField, ExtraField}
use Rattle.event_lines.proofs.Refusals.{Passed, passed, bad, same_refusal, refusal_parts, got_parts}
use Rattle.event_lines.proofs.NumberTexts.{status_sound, status_complete}
use Rattle.event_lines.proofs.FieldSteps.{behind_texts}
use Rattle.event_lines.proofs.FieldSpellings.{all_in, one_other}
use Rattle.event_lines.proofs.FieldLists.{TabFree, texts_free, free_behind, spelled_free, texts_joined, tabbed_ends, texts_behind, bad_behind, fields_sound, fields_complete, BadAt, fields_err, bad_read}

abbrev part : List ℕ → ℕ → Part
part text place = record { text = text; place = place }

clash : false ≡ true → ⊥
clash e = cc

-- a status, and nothing behind its fields
abbrev pub pass_reply : Part → Passed
pass_reply rest = reply_reading rest >>= λ (reply : Reply × Part). end_reading reply.1

abbrev pub pass_status : Part → Passed
pass_status rest = status_reading rest >>= λ (status : ℕ × Part). pass_reply status.1

-- the word of a status has neither a space nor a tab
digits_apart : (text : List ℕ) → AllIn is_ascii_digit text → AllIn is_word_byte text
digits_apart [] h = tt
digits_apart (b ∷ bs) h = (and_from _ _ (one_other is_ascii_digit 32 b refl h.0) (one_other is_ascii_digit 9 b refl h.0), digits_apart bs h.1)

pub status_apart : (text : List ℕ) (status : ℕ) → SpellsStatus text status → AllIn is_word_byte text
status_apart text status s = digits_apart text (all_in is_ascii_digit text (digits_all text s.number.numeral.1))

pub tab_ends : (bs : List ℕ) → BeginsIn is_word_byte (9 ∷ bs) → ⊥
tab_ends bs h = clash h

pub tabbed_ends_word : (texts : List (List ℕ)) → BeginsIn is_word_byte (tabbed texts) → ⊥
tabbed_ends_word [] h = h
tabbed_ends_word (text ∷ texts) h = clash h

abbrev took : List ℕ → List ℕ → ℕ → Reading Part
took word behind place = Ok (part word (place + 1), part behind (place + 1 + length word))

pub status_word_reads : (text word behind : List ℕ) (place : ℕ) → IsStatusWord text word behind → next_short_word (part text place) ≡ took word behind place
status_word_reads text word behind place s =
    ap (λ t. short_word_behind t place) s.spelled
    ∙ ap (λ t. took t (after_run is_word_byte (word ++ behind)) place) (run_of-append is_word_byte word behind s.apart s.end)
    ∙ ap (λ t. took word t place) (after_run-append is_word_byte word behind s.apart s.end)

status_word_of : (b : ℕ) (bs : List ℕ) → b ≡ 32 → IsStatusWord (b ∷ bs) (run_of is_word_byte bs) (after_run is_word_byte bs)
status_word_of b bs is =
    let run = longest_run is_word_byte bs in
    record { spelled = ap (λ c. c ∷ bs) is ∙ ap (λ t. 32 ∷ t) run.text; apart = run.valid; end = run.longest }

after_status : (begin : ℕ) (text word behind : List ℕ) → IsStatusWord text word behind
    → pass_status (part text begin) ≡ (value_or BadField (begin + 1) (status_of word) >>= λ (status : ℕ). pass_reply (part behind (begin + 1 + length word)))
after_status begin text word behind s =
    ap (λ (r : Reading Part). (r >>= λ (w : Part × Part). value_or BadField w.0.place (status_of w.0.text) >>= λ (n : ℕ). let x : Reading ℕ = Ok (n, w.1) in x) >>= λ (status : ℕ × Part). pass_reply status.1)
    (status_word_reads text word behind begin s)
    ∙ go (status_of word)
  where
    go : (o : Option ℕ) → ((value_or BadField (begin + 1) o >>= λ (n : ℕ). let x : Reading ℕ = Ok (n, part behind (begin + 1 + length word)) in x) >>= λ (status : ℕ × Part). pass_reply status.1)
        ≡ (value_or BadField (begin + 1) o >>= λ (status : ℕ). pass_reply (part behind (begin + 1 + length word)))
    go None = refl
    go (Some n) = refl

abbrev after_word : ℕ → List ℕ → List ℕ → Option ℕ → Passed
after_word begin word behind o = value_or BadField (begin + 1) o >>= λ (status : ℕ). pass_reply (part behind (begin + 1 + length word))

abbrev all_pass : Result (List Field) (At LineRefusal) → Passed
all_pass r = r >>= λ (fields : List Field). passed

-- fields behind a status pass where they are read
reply_passes : (behind : List ℕ) (place : ℕ) → (BeginsIn is_field_byte behind → ⊥) → pass_reply (part behind place) ≡ all_pass (fields_from 0 (place + 1) (behind_texts behind))
reply_passes [] place ends = refl
reply_passes (b ∷ bs) place ends = go (is_tab b) refl (fields_from 0 (place + 1) (field_texts bs))
  where
    go : (t : Bool) → is_tab b ≡ t → (r : Result (List Field) (At LineRefusal))
        → (cond t ((r >>= λ (fields : List Field). let x : Result Reply (At LineRefusal) = Ok (reply_of fields) in x) >>= λ (reply : Reply). let x : Reading Reply = Ok (reply, part [] (place + 1 + length bs)) in x)
        (Ok (reply_of [], part (b ∷ bs) place)) >>= λ (reply : Reply × Part). end_reading reply.1) ≡ all_pass r
    go true is (Ok fields) = refl
    go true is (Err at) = refl
    go false is r = absurd (ends (ap not is))

starts_with_tab : (good : List (List ℕ)) (rest : List ℕ) → BeginsIn is_field_byte (tabbed good ++ 9 ∷ rest) → ⊥
starts_with_tab [] rest h = clash h
starts_with_tab (text ∷ good) rest h = clash h

starts_word_with_tab : (good : List (List ℕ)) (rest : List ℕ) → BeginsIn is_word_byte (tabbed good ++ 9 ∷ rest) → ⊥
starts_word_with_tab [] rest h = clash h
starts_word_with_tab (text ∷ good) rest h = clash h

-- what stands behind the word of a status where a field is bad
abbrev bad_rest : List (List ℕ) → List ℕ → List ℕ → List ℕ
bad_rest good bad behind = tabbed good ++ 9 ∷ (bad ++ behind)

bad_texts : (good : List (List ℕ)) (fields : List Field) (bad behind : List ℕ) → SpellFields good fields → AllIn is_field_byte bad → (BeginsIn is_field_byte behind → ⊥)
    → behind_texts (bad_rest good bad behind) ≡ good ++ bad ∷ behind_texts behind
bad_texts good fields bad behind spelled apart ends =
    texts_behind good (9 ∷ (bad ++ behind)) (spelled_free good fields spelled) (λ h. clash h) ∙ ap (λ ts. good ++ ts) (bad_behind bad behind apart ends)

bad_place : (begin n m : ℕ) → begin + 1 + n + 1 + m ≡ begin + 1 + n + m + 1
bad_place begin n m = omega arith

bad_field_refused : (begin : ℕ) (text : List ℕ) (place : ℕ) (reason : LineRefusal) → IsBadResponseField begin text place reason → pass_status (part text begin) ≡ bad place reason
bad_field_refused begin text place reason s =
    let rest = bad_rest s.good s.bad s.behind in
    let there = begin + 1 + length s.word in
    let word : IsStatusWord text s.word rest = record { spelled = s.spelled; apart = status_apart s.word s.status s.of_status; end = starts_word_with_tab s.good (s.bad ++ s.behind) } in
    after_status begin text s.word rest word
    ∙ ap (after_word begin s.word rest) (status_complete s.word s.status s.of_status)
    ∙ reply_passes rest there (starts_with_tab s.good (s.bad ++ s.behind))
    ∙ ap (λ ts. all_pass (fields_from 0 (there + 1) ts)) (bad_texts s.good s.fields s.bad s.behind s.of_good s.apart s.end)
    ∙ ap all_pass (bad_read 0 (there + 1) s.good s.fields s.bad (behind_texts s.behind) s.of_good (omega (arith, s.within)) (from_none s.wrong))
    ∙ same_refusal (there + 1 + length (tabbed s.good)) place BadField reason (bad_place begin (length s.word) (length (tabbed s.good)) ∙ sym s.at) (sym s.why)
  where
    from_none : ((field : Field) → ¬ (SpellsField s.bad field)) ⊎ (length s.good ≡ most_fields) → ((field : Field) → ¬ (SpellsField s.bad field)) ⊎ (0 + length s.good ≡ most_fields)
    from_none (inl w) = inl w
    from_none (inr w) = inr (omega (arith, w))

no_status : (word : List ℕ) → ((status : ℕ) → ¬ (SpellsStatus word status)) → status_of word ≡ None
no_status word none = go (status_of word) refl
  where
    go : (o : Option ℕ) → status_of word ≡ o → o ≡ None
    go None is = refl
    go (Some n) is = absurd (none n (status_sound word n is))

-- what is refused by the table is refused
pub status_refused : (begin : ℕ) (text : List ℕ) (place : ℕ) (reason : LineRefusal) → StatusRefusedAt begin text place reason → pass_status (part text begin) ≡ bad place reason
status_refused begin text place reason (inl s) =
    ap (λ t. pass_status (part t begin)) s.nothing ∙ same_refusal begin place BadField reason (sym s.at) (sym s.why)
status_refused begin text place reason (inr (inl s)) =
    after_status begin text s.word s.behind s.next ∙ ap (after_word begin s.word s.behind) (no_status s.word s.bad) ∙ same_refusal (begin + 1) place BadField reason (sym s.at) (sym s.why)
status_refused begin text place reason (inr (inr (inl s))) =
    let word : IsStatusWord text s.word (32 ∷ s.behind) = record { spelled = s.spelled; apart = status_apart s.word s.status s.of_status; end = λ h. clash h } in
    after_status begin text s.word (32 ∷ s.behind) word
    ∙ ap (after_word begin s.word (32 ∷ s.behind)) (status_complete s.word s.status s.of_status)
    ∙ same_refusal (begin + 1 + length s.word + 1) place ExtraField reason (sym s.at) (sym s.why)
status_refused begin text place reason (inr (inr (inr s))) = bad_field_refused begin text place reason s

tabbed_append : (xs ys : List (List ℕ)) → tabbed (xs ++ ys) ≡ tabbed xs ++ tabbed ys
tabbed_append [] ys = refl
tabbed_append (x ∷ xs) ys = ap (λ t. 9 ∷ (x ++ t)) (tabbed_append xs ys) ∙ ap (λ t. 9 ∷ t) (sym (append_assoc x (tabbed xs) (tabbed ys)))

-- a bad field behind a status
bad_field_of : (begin : ℕ) (text word cs : List ℕ) (c status : ℕ) (at : At LineRefusal) → text ≡ 32 ∷ (word ++ c ∷ cs) → SpellsStatus word status → c ≡ 9
    → BadAt 0 (begin + 1 + length word + 1) (field_texts cs) at → IsBadResponseField begin text at.place at.reason
bad_field_of begin text word cs c status at is of_status tab b = record {
  word = word;
  status = status;
  good = b.good;
  fields = b.fields;
  bad = b.bad;
  behind = tabbed b.more;
  spelled = is ∙ ap (λ t. 32 ∷ (word ++ t)) (ap (λ d. d ∷ cs) tab ∙ texts_joined cs ∙ ap tabbed b.split ∙ tabbed_append b.good (b.bad ∷ b.more));
  of_status = of_status;
  of_good = b.of_good;
  within = omega (arith, b.within);
  apart = free_behind b.good b.bad b.more (subst TabFree b.split (texts_free cs));
  end = tabbed_ends b.more;
  wrong = to_none b.wrong;
  at = b.there ∙ bad_place begin (length word) (length (tabbed b.good));
  why = b.why;
}
  where
    to_none : ((field : Field) → ¬ (SpellsField b.bad field)) ⊎ (0 + length b.good ≡ most_fields) → ((field : Field) → ¬ (SpellsField b.bad field)) ⊎ (length b.good ≡ most_fields)
    to_none (inl w) = inl w
    to_none (inr w) = inr (omega (arith, w))

space_of : (c : ℕ) → (is_word_byte c ≡ true → ⊥) → is_tab c ≡ false → c ≡ 32
space_of c ends other = go (is_space c) refl
  where
    go : (t : Bool) → is_space c ≡ t → c ≡ 32
    go true is = true_eq c 32 is
    go false is = absurd (ends (and_from _ _ (ap not is) (ap not other)))

tab_end : (c : ℕ) → is_tab c ≡ true → is_field_byte c ≡ true → ⊥
tab_end c is h = clash (sym (ap not is) ∙ h)

-- a status is read, and what stands behind it is refused
behind_refused : (begin : ℕ) (text word behind : List ℕ) (status : ℕ) (place : ℕ) (reason : LineRefusal) → IsStatusWord text word behind → SpellsStatus word status
    → pass_reply (part behind (begin + 1 + length word)) ≡ bad place reason → StatusRefusedAt begin text place reason
behind_refused begin text word [] status place reason s of_status h = cc
behind_refused begin text word (c ∷ cs) status place reason s of_status h = go (is_tab c) refl
  where
    at_field : (r : Result (List Field) (At LineRefusal)) → fields_from 0 (begin + 1 + length word + 1) (field_texts cs) ≡ r → c ≡ 9 → all_pass r ≡ bad place reason → StatusRefusedAt begin text place reason
    at_field (Ok fields) is tab e = cc
    at_field (Err at) is tab e =
        let same = refusal_parts at.place place at.reason reason e in
        let wrong = bad_field_of begin text word cs c status at s.spelled of_status tab (fields_err 0 (begin + 1 + length word + 1) (field_texts cs) at (omega arith) is) in
        inr (inr (inr (subst (λ p. IsBadResponseField begin text p reason) same.0 (subst (λ w. IsBadResponseField begin text at.place w) same.1 wrong))))

    at_space : c ≡ 32 → StatusRefusedAt begin text place reason
    at_space is =
        let same = refusal_parts (begin + 1 + length word + 1) place ExtraField reason (ap (λ d. pass_reply (part (d ∷ cs) (begin + 1 + length word))) (sym is) ∙ h) in
        inr (inr (inl (record { word = word; behind = cs; status = status; spelled = s.spelled ∙ ap (λ d. 32 ∷ (word ++ d ∷ cs)) is; of_status = of_status; at = sym same.0; why = sym same.1 })))

    go : (t : Bool) → is_tab c ≡ t → StatusRefusedAt begin text place reason
    go true is =
        at_field (fields_from 0 (begin + 1 + length word + 1) (field_texts cs)) refl (true_eq c 9 is)
        (sym (reply_passes (c ∷ cs) (begin + 1 + length word) (tab_end c is)) ∙ h)
    go false is = at_space (space_of c s.end is)

-- what is refused is refused by the table
pub status_says : (begin : ℕ) (text : List ℕ) (place : ℕ) (reason : LineRefusal) → EndsWord text → pass_status (part text begin) ≡ bad place reason → StatusRefusedAt begin text place reason
status_says begin [] place reason end h =
    let same = refusal_parts begin place BadField reason h in inl (record { nothing = refl; at = sym same.0; why = sym same.1 })
status_says begin (b ∷ bs) place reason end h =
    let next = status_word_of b bs end in
    go (run_of is_word_byte bs) (after_run is_word_byte bs) next (status_of (run_of is_word_byte bs)) refl
    (sym (after_status begin (b ∷ bs) (run_of is_word_byte bs) (after_run is_word_byte bs) next) ∙ h)
  where
    missed : (word : List ℕ) → status_of word ≡ None → (status : ℕ) → ¬ (SpellsStatus word status)
    missed word none status s = other (sym none ∙ status_complete word status s)
      where
        other : None ≡ Some status → ⊥
        other e = cc

    go : (word behind : List ℕ) → IsStatusWord (b ∷ bs) word behind → (o : Option ℕ) → status_of word ≡ o → after_word begin word behind o ≡ bad place reason → StatusRefusedAt begin (b ∷ bs) place reason
    go word behind s None is e =
        let same = refusal_parts (begin + 1) place BadField reason e in
        inr (inl (record { word = word; behind = behind; next = s; bad = missed word is; at = sym same.0; why = sym same.1 }))
    go word behind s (Some status) is e = behind_refused begin (b ∷ bs) word behind status place reason s (status_sound word status is) e

-- fields that are spelled are read
texts_of : (texts : List (List ℕ)) → TabFree texts → behind_texts (tabbed texts) ≡ texts
texts_of texts free = ap behind_texts (sym (append-nil (tabbed texts))) ∙ texts_behind texts [] free (λ h. h) ∙ append-nil texts

abbrev replied : ℕ → Result (List Field) (At LineRefusal) → Reading Reply
replied end r = (r >>= λ (fields : List Field). let x : Result Reply (At LineRefusal) = Ok (reply_of fields) in x) >>= λ (reply : Reply). let x : Reading Reply = Ok (reply, part [] end) in x

pub reply_complete : (texts : List (List ℕ)) (fields : List Field) (place : ℕ) → SpellFields texts fields → length texts ≤ most_fields
    → (end : ℕ) × (reply_reading (part (tabbed texts) place) ≡ Ok (reply_of fields, part [] end))
reply_complete [] [] place h few = (place, refl)
reply_complete [] (field ∷ fields) place h few = absurd h
reply_complete (text ∷ texts) [] place h few = absurd h
reply_complete (text ∷ texts) (field ∷ fields) place h few =
    let end = place + 1 + length (text ++ tabbed texts) in (
      end,
      ap (λ ts. replied end (fields_from 0 (place + 1) ts)) (texts_of (text ∷ texts) (spelled_free (text ∷ texts) (field ∷ fields) h))
          ∙ ap (replied end) (fields_complete 0 (place + 1) (text ∷ texts) (field ∷ fields) h (omega (arith, few))),
    )

-- a status that is spelled is read
pub status_reads : {B : Type 0} (next : ℕ × Part → Reading B) (text word behind : List ℕ) (status place : ℕ) → IsStatusWord text word behind → SpellsStatus word status
    → (status_reading (part text place) >>= next) ≡ next (status, part behind (place + 1 + length word))
status_reads {B} next text word behind status place s of_status =
    ap (λ (r : Reading Part). (r >>= λ (w : Part × Part). value_or BadField w.0.place (status_of w.0.text) >>= λ (n : ℕ). let x : Reading ℕ = Ok (n, w.1) in x) >>= next)
    (status_word_reads text word behind place s)
    ∙ ap (λ (o : Option ℕ). (value_or BadField (place + 1) o >>= λ (n : ℕ). let x : Reading ℕ = Ok (n, part behind (place + 1 + length word)) in x) >>= next) (status_complete word status of_status)

-- a status that is read
pub record StatusFound {B : Type 0} (next : ℕ × Part → Reading B) (text : List ℕ) (place : ℕ) (end : B × Part) : Type 0 where
  pub word : List ℕ
  pub behind : List ℕ
  pub value : ℕ
  pub is_next : IsStatusWord text word behind
  pub is_status : SpellsStatus word value
  pub then_is : next (value, part behind (place + 1 + length word)) ≡ Ok end

abbrev after_status_word : {B : Type 0} → (ℕ × Part → Reading B) → Reading Part → Reading B
after_status_word next r = (r >>= λ (w : Part × Part). value_or BadField w.0.place (status_of w.0.text) >>= λ (n : ℕ). let x : Reading ℕ = Ok (n, w.1) in x) >>= next

pub status_found : {B : Type 0} (next : ℕ × Part → Reading B) (text : List ℕ) (place : ℕ) (end : B × Part) → EndsWord text → (status_reading (part text place) >>= next) ≡ Ok end → StatusFound next text place end
status_found {B} next [] place end ends h = cc
status_found {B} next (b ∷ bs) place end ends h = go (run_of is_word_byte bs) (after_run is_word_byte bs) (status_word_of b bs ends) (status_of (run_of is_word_byte bs)) refl
    (sym (ap (after_status_word next) (status_word_reads (b ∷ bs) (run_of is_word_byte bs) (after_run is_word_byte bs) place (status_word_of b bs ends))) ∙ h)
  where
    other : (p : ℕ) (why : LineRefusal) → refused {A = B × Part} p why ≡ Ok end → ⊥
    other p why e = cc

    go : (word behind : List ℕ) → IsStatusWord (b ∷ bs) word behind → (o : Option ℕ) → status_of word ≡ o
        → ((value_or BadField (place + 1) o >>= λ (n : ℕ). let x : Reading ℕ = Ok (n, part behind (place + 1 + length word)) in x) >>= next) ≡ Ok end → StatusFound next (b ∷ bs) place end
    go word behind s None is e = absurd (other (place + 1) BadField e)
    go word behind s (Some value) is e = record { word = word; behind = behind; value = value; is_next = s; is_status = status_sound word value is; then_is = e }

-- the fields that are read
pub record ReplyFound (event_of : Reply → Event) (behind : List ℕ) (event : Event) : Type 0 where
  pub texts : List (List ℕ)
  pub fields : List Field
  pub is_tabbed : behind ≡ tabbed texts
  pub spelled : SpellFields texts fields
  pub few : length texts ≤ most_fields
  pub same : event_of (reply_of fields) ≡ event

abbrev got : Event → Part → Reading Event
got event left = Ok (event, left)

pub reply_found : (event_of : Reply → Event) (behind : List ℕ) (place : ℕ) (event : Event) (left : Part) → (reply_reading (part behind place) >>= λ (r : Reply × Part). got (event_of r.0) r.1) ≡ got event left → left.text ≡ []
    → ReplyFound event_of behind event
reply_found event_of [] place event left h none = record { texts = []; fields = []; is_tabbed = refl; spelled = tt; few = omega arith; same = (got_parts (event_of (reply_of [])) event (part [] place) left h).0 }
reply_found event_of (b ∷ bs) place event left h none = go (is_tab b) refl h
  where
    at : (r : Result (List Field) (At LineRefusal)) → fields_from 0 (place + 1) (field_texts bs) ≡ r → b ≡ 9
        → (replied (place + 1 + length bs) r >>= λ (r : Reply × Part). got (event_of r.0) r.1) ≡ got event left → ReplyFound event_of (b ∷ bs) event
    at (Err why) is tab e = cc
    at (Ok fields) is tab e =
        let read = fields_sound 0 (place + 1) (field_texts bs) fields (omega arith) is in
        record {
          texts = field_texts bs;
          fields = fields;
          is_tabbed = ap (λ c. c ∷ bs) tab ∙ texts_joined bs;
          spelled = read.0;
          few = omega (arith, read.1);
          same = (got_parts (event_of (reply_of fields)) event (part [] (place + 1 + length bs)) left e).0;
        }

    more : (p : Part) → part (b ∷ bs) place ≡ p → p.text ≡ [] → ⊥
    more p is e = nothing (ap (λ (q : Part). q.text) is ∙ e)
      where
        nothing : b ∷ bs ≡ [] → ⊥
        nothing k = cc

    go : (t : Bool) → is_tab b ≡ t → (cond t (replied (place + 1 + length bs) (fields_from 0 (place + 1) (field_texts bs))) (Ok (reply_of [], part (b ∷ bs) place)) >>= λ (r : Reply × Part). got (event_of r.0) r.1) ≡ got event left
        → ReplyFound event_of (b ∷ bs) event
    go true is e = at (fields_from 0 (place + 1) (field_texts bs)) refl (true_eq b 9 is) e
    go false is e = absurd (more left (got_parts (event_of (reply_of [])) event (part (b ∷ bs) place) left e).1 none)
