-- What the grammar of a record's text says is what is read.
use Rattle.std.proofs.Common.{◌≡◌, ◌⊎◌, ℕ, zero, suc, ◌+◌, ◌<◌, ◌≤◌, Bool, true, false, cond, ◌||◌, nat_eq, nat_lt, List, [], ◌∷◌, ◌++◌, length, Option, Some, None, Ok, Err, refl, ap, sym, ◌∙◌, subst, arith, inl, inr}
use Rattle.alt_base.specs.declared.refusal.At.{At}
use Rattle.dns_names.specs.Names.{AreBytes}
use Rattle.dns_names.specs.TextReading.{read_text}
use Rattle.dns_names.proofs.TextSpelled.{refused_reads as name_refused}
use Rattle.field_text.specs.DeltaReading.{read_delta_seconds}
use Rattle.field_text.proofs.RunLemmas.{longest_run}
use Rattle.svcb_wire.specs.declared.param.Param.{Param}
use Rattle.svcb_wire.specs.declared.svcb.Svcb.{Svcb}
use Rattle.svcb_wire.specs.Records.{record_octets}
use Rattle.svcb_wire.specs.Usable.{has_key, is_consistent}
use Rattle.dns_names.proofs.Bytes.{bytes_back}
use Rattle.alt_base.proofs.Numbers.{eq_true, lt_true, lt_false, true_eq}
use Rattle.svcb_text.specs.declared.refusal.RecordTextRefusal.{RecordTextRefusal}
use Rattle.svcb_text.specs.declared.refusal.RecordTextRefusal.TheVariants.{BadPriority, BadTarget, BadKey, RepeatedKey, BadString, BadValue, Inconsistent, TooLong}
use Rattle.alt_base.specs.Answers.{refused}
use Rattle.svcb_values.specs.KeyNames.{is_key_byte, key_name}
use Rattle.svcb_values.specs.KeyOrder.{IsNew}
use Rattle.svcb_text.specs.ParamOrder.{keys_of}
use Rattle.svcb_text.specs.TextGrammar.{front_text, spaced_texts, HasForm, IsAllowed, SpellsRecordText}
use Rattle.svcb_text.specs.TextReading.{RecordAnswer, first_param, params_behind, finish, with_params, item_of, by_target, priority_of, by_priority, read_record_text}
use Rattle.svcb_text.specs.TextRefusals.{GoesOn, RecordTextRefusedAt, IsBadPriority, IsBadTarget, OneRecordText}
use Rattle.svcb_text.proofs.ParamKeys.{all_placed, in_order, order_is, distinct_fresh, new_among, none_among}
use Rattle.svcb_text.proofs.Items.{item_is, ends_with_blanks, blanks_end}
use Rattle.svcb_text.proofs.Front.{priority_says, sized_reads, priority_passed, fronted_reads}
use Rattle.svcb_text.proofs.FirstParam.{ParamStops}
use Rattle.svcb_text.proofs.FirstRead.{stop_reads}
use Rattle.svcb_text.proofs.ParamPasses.{passes, ends_before, end_on, stop_on}
use Rattle.svcb_text.proofs.RecordSays.{Says, record_says}
use Rattle.alt_base.proofs.Variants.{same_ok}

-- the parameters of a text of a record's form
end_reads : (left : ℕ) (before : List Param) (place : ℕ) (x : List ℕ) → length x < left → ((k : ℕ) → params_behind (suc k) before place x ≡ Ok before) → params_behind left before place x ≡ Ok before
end_reads zero before place x some h = absurd (omega arith)
end_reads (suc k) before place x some h = h k

stop_at : (left : ℕ) (before : List Param) (place : ℕ) (x : List ℕ) (at : At RecordTextRefusal) → length x < left → ((k : ℕ) → params_behind (suc k) before place x ≡ Err at) → params_behind left before place x ≡ Err at
stop_at zero before place x at some h = absurd (omega arith)
stop_at (suc k) before place x at some h = h k

pub form_reads : (x : List ℕ) (value : Svcb) → HasForm x value → read_record_text x ≡ finish (length x) value
form_reads x value s =
    let rest = spaced_texts s.spaced ++ s.behind in
    let place = length (front_text s.front) in
    let ends = blanks_end s.behind s.blanks in
    let p = passes s.spaced s.params (suc (length rest)) [] place rest s.behind refl s.each (distinct_fresh s.params s.distinct) ends (omega arith) in
    let last = end_reads p.left (in_order s.params) (place + length (spaced_texts s.spaced)) s.behind p.enough (λ k. end_on k (in_order s.params) (place + length (spaced_texts s.spaced)) s.behind s.blanks) in
    fronted_reads x value.priority value.target place rest (record { front = s.front; text = s.text; begins = s.begins; ends = ends_before s.spaced s.params s.behind s.each ends; behind = refl; short = s.short })
    ∙ ap (with_params (length x) value.priority value.target) (p.reads ∙ last)
    ∙ ap (λ ps. finish (length x) (record { priority = value.priority; target = value.target; params = ps })) (sym (order_is s.params value.params s.distinct s.order))

may_be : (value : Svcb) → IsAllowed value → (nat_eq value.priority 0 || is_consistent value) ≡ true
may_be value (inl e) = let z : nat_eq value.priority 0 ≡ true = eq_true value.priority 0 e in rw z refl
may_be value (inr e) = rw e (or_true (nat_eq value.priority 0))
  where
    or_true : (t : Bool) → (t || true) ≡ true
    or_true true = refl
    or_true false = refl

may_not_be : (value : Svcb) → (IsAllowed value → ⊥) → (nat_eq value.priority 0 || is_consistent value) ≡ false
may_not_be value bad = by (nat_eq value.priority 0) (is_consistent value) refl refl
  where
    by : (a b : Bool) → nat_eq value.priority 0 ≡ a → is_consistent value ≡ b → (a || b) ≡ false
    by true b p q = absurd (bad (inl (true_eq value.priority 0 p)))
    by false true p q = absurd (bad (inr q))
    by false false p q = refl

finish_by : (size : ℕ) (value : Svcb) (a b : Bool) → (nat_eq value.priority 0 || is_consistent value) ≡ a → nat_lt 65535 (length (record_octets value)) ≡ b
    → finish size value ≡ cond a (cond b (refused size TooLong) (Ok value)) (refused size Inconsistent)
finish_by size value a b p q =
    ap (λ t. cond t (cond (nat_lt 65535 (length (record_octets value))) (refused size TooLong) (Ok value)) (refused size Inconsistent)) p
    ∙ ap (λ t. cond a (cond t (refused size TooLong) (Ok value)) (refused size Inconsistent)) q

pub record_spelled : (x : List ℕ) (value : Svcb) → SpellsRecordText x value → read_record_text x ≡ Ok value
record_spelled x value s = form_reads x value s.form ∙ finish_by (length x) value true false (may_be value s.allowed) (lt_false 65535 _ s.sized)

refused_is : (q q' : ℕ) (reason : RecordTextRefusal) → q ≡ q' → (let a : RecordAnswer = refused q reason in a) ≡ (let b : RecordAnswer = refused q' reason in b)
refused_is q q' reason e = ap (λ n. let a : RecordAnswer = refused n reason in a) e

-- behind whole parameters the reading stops
goes_reads : (x : List ℕ) (params : List Param) (rest : List ℕ) (place : ℕ) (at : At RecordTextRefusal) → length x ≤ 65535 → GoesOn x params rest place → first_param (all_placed [] params) place rest ≡ Err at → read_record_text x ≡ Err at
goes_reads x params rest place at short g is =
    let tail = g.blanks ++ rest in
    let more = spaced_texts g.spaced ++ tail in
    let start = length (front_text g.front) in
    let ends = ends_with_blanks g.blanks rest g.are_blanks in
    let p = passes g.spaced params (suc (length more)) [] start more tail refl g.each (distinct_fresh params g.distinct) ends (omega arith) in
    let here : start + length (spaced_texts g.spaced) + length g.blanks ≡ place = sym g.behind in
    let stops = ap (λ n. first_param (all_placed [] params) n rest) here ∙ is in
    let last =
    stop_at p.left (all_placed [] params) (start + length (spaced_texts g.spaced)) tail at p.enough
    (λ k. stop_on k (all_placed [] params) (start + length (spaced_texts g.spaced)) tail g.blanks rest at (record { text = refl; all = g.are_blanks.all; some = g.some; no_blank = g.no_blank }) stops) in
    fronted_reads x g.priority g.name start more (record { front = g.front; text = g.text; begins = g.begins; ends = ends_before g.spaced params tail g.each ends; behind = refl; short = short })
    ∙ ap (with_params (length x) g.priority g.name) (p.reads ∙ last)

goes_bytes : (x : List ℕ) (params : List Param) (rest : List ℕ) (place : ℕ) → AreBytes x → GoesOn x params rest place → AreBytes rest
goes_bytes x params rest place bytes g = bytes_back g.blanks rest (bytes_back (spaced_texts g.spaced) (g.blanks ++ rest) (bytes_back (front_text g.front) (spaced_texts g.spaced ++ (g.blanks ++ rest)) (subst AreBytes g.text bytes)))

stops_reads : (x : List ℕ) (params : List Param) (rest : List ℕ) (place q : ℕ) (reason : RecordTextRefusal) → AreBytes x → length x ≤ 65535 → GoesOn x params rest place → ParamStops (all_placed [] params) place rest q reason → read_record_text x ≡ refused q reason
stops_reads x params rest place q reason bytes short g s =
    goes_reads x params rest place (record { place = q; reason = reason }) short g (stop_reads reason (all_placed [] params) place rest q (goes_bytes x params rest place bytes g) (longest_run is_key_byte rest).text s)

none_of : (o : Option ℕ) → ((n : ℕ) → o ≡ Some n → ⊥) → o ≡ None
none_of None h = refl
none_of (Some n) h = absurd (h n refl)

priority_refused : (x : List ℕ) (q : ℕ) → length x ≤ 65535 → IsBadPriority x q → read_record_text x ≡ refused q BadPriority
priority_refused x q short s =
    let item : item_of s.y ≡ s.item = item_is s.y s.item s.rest s.is_item.text s.is_item.no_blank s.is_item.ends in
    let bad : priority_of (read_delta_seconds s.item) ≡ None = none_of (priority_of (read_delta_seconds s.item)) (λ n is. s.bad n (priority_says s.item n is)) in
    sized_reads x s.before s.y short s.text s.blanks s.no_blank
    ∙ ap (λ xs. by_priority (priority_of (read_delta_seconds xs)) (length x) (length s.before) s.y) item
    ∙ ap (λ o. by_priority o (length x) (length s.before) s.y) bad
    ∙ refused_is (length s.before) q BadPriority (sym s.place)

target_refused : (x : List ℕ) (q : ℕ) → length x ≤ 65535 → IsBadTarget x q → read_record_text x ≡ refused q BadTarget
target_refused x q short s =
    let item : item_of s.y ≡ s.item = item_is s.y s.item s.rest s.is_item.text s.is_item.no_blank s.is_item.ends in
    let place = length s.before + length s.digits + length s.between in
    priority_passed x s.before s.digits s.between s.y s.priority short s.text s.blanks s.number s.blanks_between s.number_ends s.no_blank
    ∙ ap (λ xs. by_target (read_text xs) (length x) s.priority place s.y) item
    ∙ ap (λ r. by_target r (length x) s.priority place s.y) (name_refused s.item s.at s.reason s.refused)
    ∙ refused_is (place + s.at) q BadTarget (sym s.place)

repeats : (key : ℕ) (params : List Param) (t : Bool) → has_key key (all_placed [] params) ≡ t → (IsNew key (keys_of params) → ⊥) → t ≡ true
repeats key params true is h = refl
repeats key params false is h = absurd (h (new_among key params is))

pub record_refused : (x : List ℕ) (q : ℕ) (reason : RecordTextRefusal) → AreBytes x → RecordTextRefusedAt x q reason → read_record_text x ≡ refused q reason
record_refused x q BadPriority bytes (short, s) = priority_refused x q short s
record_refused x q BadTarget bytes (short, s) = target_refused x q short s
record_refused x q BadKey bytes (short, s) = stops_reads x s.params s.rest q q BadKey bytes short s.goes (record { bad = s.bad; at = refl })
record_refused x q RepeatedKey bytes (short, s) =
    stops_reads x s.params (key_name s.key ++ s.more) q q RepeatedKey bytes short s.goes (record { key = s.key; more = s.more; text = refl; fits = s.fits; ends = s.ends; repeated = repeats s.key s.params (has_key s.key (all_placed [] s.params)) refl s.repeated; at = refl })
record_refused x q BadString bytes (short, s) =
    stops_reads x s.params (key_name s.key ++ 61 ∷ s.more) s.place q BadString bytes short s.goes
    (record { key = s.key; more = s.more; wrong = s.at; text = refl; fits = s.fits; is_new = none_among s.key s.params s.is_new; refused = s.refused; at = s.wrong })
record_refused x q (BadValue key) bytes (short, s) =
    stops_reads x s.params _ s.place q (BadValue key) bytes short s.goes
    (record {
      given = s.given;
      rest = s.more;
      first = record { text = refl; is_given = s.is_given; ends = s.ends; is_new = subst (λ k. has_key k (all_placed [] s.params) ≡ false) (sym s.of_key) (none_among key s.params s.is_new) };
      of_key = s.of_key;
      bad = s.bad;
      at = s.first;
    })
record_refused x q Inconsistent bytes s =
    form_reads x s.value s.form ∙ finish_by (length x) s.value false (nat_lt 65535 (length (record_octets s.value))) (may_not_be s.value s.bad) refl ∙ refused_is (length x) q Inconsistent (sym s.place)
record_refused x q TooLong bytes (inl s) = let a : nat_lt 65535 (length x) ≡ true = lt_true 65535 (length x) s.0 in rw a (refused_is 65535 q TooLong (sym s.1))
record_refused x q TooLong bytes (inr s) = form_reads x s.value s.form ∙ finish_by (length x) s.value true true (may_be s.value s.allowed) (lt_true 65535 _ s.long) ∙ refused_is (length x) q TooLong (sym s.place)

either_says : (x : List ℕ) (r : RecordAnswer) → Says x r → ((value : Svcb) × SpellsRecordText x value) ⊎ ((q : ℕ) × (reason : RecordTextRefusal) × RecordTextRefusedAt x q reason)
either_says x (Ok value) s = inl (value, s)
either_says x (Err at) s = inr (at.place, at.reason, s)

same_refused : (q q' : ℕ) (reason reason' : RecordTextRefusal) → (let a : RecordAnswer = refused q reason in a) ≡ refused q' reason' → (q ≡ q') × (reason ≡ reason')
same_refused q q' reason reason' e =
    let h : (let a : At RecordTextRefusal = record { place = q; reason = reason } in a) ≡ (let b : At RecordTextRefusal = record { place = q'; reason = reason' } in b) = cc in
    (ap (λ (a : At RecordTextRefusal). a.place) h, ap (λ (a : At RecordTextRefusal). a.reason) h)

no_both : (value : Svcb) (q : ℕ) (reason : RecordTextRefusal) (r : RecordAnswer) → r ≡ Ok value → r ≡ refused q reason → ⊥
no_both value q reason r a b = cc

pub one_of : (x : List ℕ) → AreBytes x → OneRecordText x
one_of x bytes = record {
  some = either_says x (read_record_text x) (record_says x bytes);
  one_value = λ value value' a b. same_ok value value' (sym (record_spelled x value a) ∙ record_spelled x value' b);
  one_refusal = λ q q' reason reason' a b. same_refused q q' reason reason' (sym (record_refused x q reason bytes a) ∙ record_refused x q' reason' bytes b);
  not_both = λ value q reason a b. no_both value q reason (read_record_text x) (record_spelled x value a) (record_refused x q reason bytes b);
}
