-- The reading of a record's text against its grammar.
use Rattle.std.proofs.Common.{◌≡◌, ◌≢◌, ℕ, suc, ◌+◌, ◌≤◌, Bool, true, false, cond, ◌||◌, nat_eq, nat_lt, List, [], ◌∷◌, ◌++◌, length, Option, Some, None, Result, Ok, Err, IfOk, refl, ap, sym, ◌∙◌, subst, arith, inl, inr}
use Rattle.std.proofs.lemmas.List.{append_assoc, length-append}
use Rattle.alt_base.specs.declared.refusal.Refused.{Refused}
use Rattle.alt_base.specs.declared.refusal.Refused.TheVariants.{NoMemory, At as RefusedThere}
use Rattle.dns_names.specs.Names.{AreBytes}
use Rattle.dns_names.specs.TextReading.{TextAnswer, read_text}
use Rattle.dns_names.proofs.TextNames.{read_says as name_says, refusal_says as name_refused}
use Rattle.field_text.specs.BlanksGrammar.{is_blank}
use Rattle.field_text.specs.BlanksReading.{after_blanks}
use Rattle.field_text.specs.DeltaReading.{read_delta_seconds}
use Rattle.field_text.specs.Runs.{AllIn, BeginsIn, run_of}
use Rattle.field_text.proofs.RunLemmas.{longest_run}
use Rattle.svcb_wire.specs.Octets.{key_of}
use Rattle.svcb_wire.specs.declared.svcb.Svcb.{Svcb}
use Rattle.svcb_wire.specs.Records.{record_octets}
use Rattle.svcb_wire.specs.Usable.{has_key, is_consistent}
use Rattle.dns_names.proofs.Bytes.{bytes_back}
use Rattle.alt_base.proofs.Numbers.{true_eq, true_lt, false_lt}
use Rattle.svcb_text.specs.declared.refusal.RecordTextRefusal.{RecordTextRefusal}
use Rattle.svcb_text.specs.declared.refusal.RecordTextRefusal.TheVariants.{BadPriority, BadTarget, BadKey, RepeatedKey, BadString, BadValue, Inconsistent, TooLong}
use Rattle.alt_base.specs.Answers.{refused, Answers, IfRefused}
use Rattle.svcb_values.specs.KeyNames.{key_name}
use Rattle.svcb_values.specs.KeyOrder.{IsOrderOf}
use Rattle.svcb_values.specs.StringGrammar.{EndsItem}
use Rattle.svcb_text.specs.TextGrammar.{given_head, given_string, spaced_texts, SpellsPriority, Front, front_text, HasForm, IsAllowed, SpellsRecordText}
use Rattle.svcb_text.specs.TextReading.{ParamsAnswer, RecordAnswer, read_params, finish, with_params, item_of, after_item, by_target, priority_of, by_priority, from_priority, read_record_text}
use Rattle.svcb_text.specs.TextRefusals.{GoesOn, RecordTextRefusedAt}
use Rattle.svcb_text.proofs.ParamKeys.{all_placed, fresh_distinct, fresh_order, new_among, none_among}
use Rattle.svcb_text.proofs.Items.{first_item}
use Rattle.svcb_text.proofs.Front.{Fronted, priority_says, priority_reads as number_read, name_some}
use Rattle.svcb_text.proofs.ParamLists.{ParamsStop, ParamsSays, params_say}
use Rattle.alt_base.proofs.Variants.{some_none}
use Rattle.alt_base.proofs.Booleans.{contradicts}

abbrev pub Says : List ℕ → RecordAnswer → Type 0
Says x (Ok value) = SpellsRecordText x value
Says x (Err at) = RecordTextRefusedAt x at.place at.reason

goes_on : (x : List ℕ) (priority : ℕ) (name : List (List ℕ)) (place : ℕ) (rest : List ℕ) (q : ℕ) (reason : RecordTextRefusal) (more : List ℕ) (at : ℕ)
    → Fronted x priority name place rest → (s : ParamsStop [] place rest q reason) → s.rest ≡ more → at ≡ place + length (spaced_texts s.spaced) + length s.blanks → GoesOn x s.params more at
goes_on x priority name place rest q reason more at h s e is = record {
  front = h.front;
  priority = priority;
  name = name;
  spaced = s.spaced;
  blanks = s.blanks;
  text = h.text ∙ ap (λ xs. front_text h.front ++ xs) (s.text ∙ ap (λ xs. spaced_texts s.spaced ++ (s.blanks ++ xs)) e);
  begins = h.begins;
  each = s.each;
  distinct = fresh_distinct s.params s.fresh;
  are_blanks = s.are_blanks;
  some = λ none. s.some (e ∙ none);
  no_blank = λ blank. s.no_blank (subst (BeginsIn is_blank) (sym e) blank);
  behind = omega (arith, is, h.behind);
}

stop_says : (reason : RecordTextRefusal) (x : List ℕ) (priority : ℕ) (name : List (List ℕ)) (place : ℕ) (rest : List ℕ) (q : ℕ) → Fronted x priority name place rest → ParamsStop [] place rest q reason → RecordTextRefusedAt x q reason
stop_says BadPriority x priority name place rest q h s = absurd s.stops
stop_says BadTarget x priority name place rest q h s = absurd s.stops
stop_says BadKey x priority name place rest q h s = (h.short, record { params = s.params; rest = s.rest; goes = goes_on x priority name place rest q BadKey s.rest q h s refl s.stops.at; bad = s.stops.bad })
stop_says RepeatedKey x priority name place rest q h s = (
  h.short,
  record {
    params = s.params;
    key = s.stops.key;
    more = s.stops.more;
    goes = goes_on x priority name place rest q RepeatedKey (key_name s.stops.key ++ s.stops.more) q h s s.stops.text s.stops.at;
    fits = s.stops.fits;
    ends = s.stops.ends;
    repeated = λ new. contradicts (has_key s.stops.key (all_placed [] s.params)) s.stops.repeated (none_among s.stops.key s.params new);
  },
)
stop_says BadString x priority name place rest q h s = (
  h.short,
  record {
    params = s.params;
    key = s.stops.key;
    more = s.stops.more;
    place = place + length (spaced_texts s.spaced) + length s.blanks;
    at = s.stops.wrong;
    goes = goes_on x priority name place rest q BadString (key_name s.stops.key ++ 61 ∷ s.stops.more) _ h s s.stops.text refl;
    fits = s.stops.fits;
    is_new = new_among s.stops.key s.params s.stops.is_new;
    refused = s.stops.refused;
    wrong = s.stops.at;
  },
)
stop_says (BadValue key) x priority name place rest q h s = (
  h.short,
  record {
    params = s.params;
    given = s.stops.given;
    more = s.stops.rest;
    place = place + length (spaced_texts s.spaced) + length s.blanks;
    goes = goes_on x priority name place rest q (BadValue key) (given_head s.stops.given ++ (given_string s.stops.given ++ s.stops.rest)) _ h s s.stops.first.text refl;
    is_given = s.stops.first.is_given;
    ends = s.stops.first.ends;
    of_key = s.stops.of_key;
    is_new = new_among key s.params (subst (λ k. has_key k (all_placed [] s.params) ≡ false) s.stops.of_key s.stops.first.is_new);
    bad = s.stops.bad;
    first = s.stops.at;
  },
)
stop_says Inconsistent x priority name place rest q h s = absurd s.stops
stop_says TooLong x priority name place rest q h s = absurd s.stops

-- what concerns the whole record
allowed_by : (a b : Bool) (value : Svcb) → nat_eq value.priority 0 ≡ a → is_consistent value ≡ b → (a || b) ≡ true → IsAllowed value
allowed_by true b value p q h = inl (true_eq value.priority 0 p)
allowed_by false b value p q h = inr (q ∙ h)

refused_by_both : (a b : Bool) (value : Svcb) → nat_eq value.priority 0 ≡ a → is_consistent value ≡ b → (a || b) ≡ false → IsAllowed value → ⊥
refused_by_both true b value p q h allowed = contradicts true refl h
refused_by_both false b value p q h (inl zero_is) = contradicts (nat_eq value.priority 0) (ap (λ n. nat_eq n 0) zero_is) p
refused_by_both false b value p q h (inr consistent) = contradicts (is_consistent value) consistent (q ∙ h)

finish_says : (x : List ℕ) (value : Svcb) → HasForm x value → Says x (finish (length x) value)
finish_says x value form = by (nat_eq value.priority 0 || is_consistent value) (nat_lt 65535 (length (record_octets value))) refl refl
  where
    by : (a b : Bool) → (nat_eq value.priority 0 || is_consistent value) ≡ a → nat_lt 65535 (length (record_octets value)) ≡ b → Says x (cond a (cond b (refused (length x) TooLong) (Ok value)) (refused (length x) Inconsistent))
    by true true p q = inr (record { value = value; form = form; allowed = allowed_by _ _ value refl refl p; long = true_lt 65535 _ q; place = refl })
    by true false p q = record { form = form; allowed = allowed_by _ _ value refl refl p; sized = false_lt 65535 _ q }
    by false b p q = record { value = value; form = form; bad = refused_by_both _ _ value refl refl p; place = refl }

params_says : (a : ParamsAnswer) (x : List ℕ) (priority : ℕ) (name : List (List ℕ)) (place : ℕ) (rest : List ℕ) → Fronted x priority name place rest → ParamsSays [] place rest a → Says x (with_params (length x) priority name a)
params_says (Ok params) x priority name place rest h s =
    finish_says x (record { priority = priority; target = name; params = params })
    (record {
      front = h.front;
      spaced = s.spaced;
      params = s.params;
      behind = s.behind;
      text = h.text ∙ ap (λ xs. front_text h.front ++ xs) s.text;
      begins = h.begins;
      each = s.each;
      blanks = s.blanks;
      distinct = fresh_distinct s.params s.fresh;
      order = subst (IsOrderOf key_of s.params) (sym s.are) (fresh_order s.params s.fresh);
      short = h.short;
    })
params_says (Err at) x priority name place rest h s = stop_says at.reason x priority name place rest at.place h s

-- a priority and blanks in front of a rest, at a place
record Numbered (x : List ℕ) (priority place : ℕ) (y : List ℕ) : Type 0 where
  pub before : List ℕ
  pub digits : List ℕ
  pub between : List ℕ
  pub text : x ≡ before ++ (digits ++ (between ++ y))
  pub blanks : AllIn is_blank before
  pub number : SpellsPriority digits priority
  pub blanks_between : AllIn is_blank between
  pub number_ends : EndsItem (between ++ y)
  pub no_blank : BeginsIn is_blank y → ⊥
  pub behind : place ≡ length before + length digits + length between
  pub short : length x ≤ 65535

-- a target that is there stands behind blanks
some_between : (between y : List ℕ) → EndsItem (between ++ y) → (BeginsIn is_blank y → ⊥) → item_of y ≢ [] → between ≢ []
some_between between [] ends stops some none = some refl
some_between between (b ∷ bs) ends stops some none = stops (subst (λ xs. EndsItem (xs ++ b ∷ bs)) none ends)

target_says : (r : TextAnswer) (x : List ℕ) (priority place : ℕ) (y : List ℕ) → AreBytes x → Numbered x priority place y → read_text (item_of y) ≡ r → Says x (by_target r (length x) priority place y)
target_says (Ok name) x priority place y bytes h is =
    let item = item_of y in
    let rest = after_item y in
    let one = first_item y in
    let named = name_says item name is in
    let front : Front = record { before = h.before; digits = h.digits; between = h.between; target = item } in
    let text : x ≡ front_text front ++ rest = h.text ∙ ap (λ xs. h.before ++ (h.digits ++ (h.between ++ xs))) one.text ∙ regroup h.before h.digits h.between item rest in
    let fronted : Fronted x priority name (place + length item) rest = record {
      front = front;
      text = text;
      begins = record { before = h.blanks; number = h.number; between = record { some = some_between h.between y h.number_ends h.no_blank (name_some item name named); all = h.blanks_between }; named = named };
      ends = one.ends;
      behind = ap (λ n. n + length item) h.behind ∙ lengths h.before h.digits h.between item;
      short = h.short;
    } in
    params_says (read_params (place + length item) rest) x priority name (place + length item) rest fronted
    (params_say (suc (length rest)) [] (place + length item) rest (bytes_back (front_text front) rest (subst AreBytes text bytes)) one.ends (omega arith))
  where
    regroup : (a b c d e : List ℕ) → a ++ (b ++ (c ++ (d ++ e))) ≡ (a ++ (b ++ (c ++ d))) ++ e
    regroup a b c d e = simp append_assoc

    lengths : (a b c d : List ℕ) → length a + length b + length c + length d ≡ length (a ++ (b ++ (c ++ d)))
    lengths a b c d = simp length-append (omega arith)
target_says (Err at) x priority place y bytes h is = (
  h.short,
  record {
    before = h.before;
    digits = h.digits;
    between = h.between;
    y = y;
    item = item_of y;
    rest = after_item y;
    priority = priority;
    at = at.place;
    reason = at.reason;
    text = h.text;
    blanks = h.blanks;
    number = h.number;
    blanks_between = h.blanks_between;
    number_ends = h.number_ends;
    no_blank = h.no_blank;
    is_item = first_item y;
    refused = name_refused (item_of y) at.place at.reason is;
    place = ap (λ n. n + at.place) h.behind;
  },
)

number_says : (o : Option ℕ) (x before y : List ℕ) (place : ℕ) → AreBytes x → length x ≤ 65535 → x ≡ before ++ y → AllIn is_blank before → (BeginsIn is_blank y → ⊥) → place ≡ length before → priority_of (read_delta_seconds (item_of y)) ≡ o
    → Says x (by_priority o (length x) place y)
number_says None x before y place bytes short text blanks stops behind is = (
  short,
  record {
    before = before;
    y = y;
    item = item_of y;
    rest = after_item y;
    text = text;
    blanks = blanks;
    no_blank = stops;
    is_item = first_item y;
    bad = λ priority s. some_none priority (priority_of (read_delta_seconds (item_of y))) (number_read (item_of y) priority s) is;
    place = behind;
  },
)
number_says (Some priority) x before y place bytes short text blanks stops behind is =
    let one = first_item y in
    let run = longest_run is_blank (after_item y) in
    let split : y ≡ item_of y ++ (run_of is_blank (after_item y) ++ after_blanks (after_item y)) = one.text ∙ ap (λ xs. item_of y ++ xs) run.text in
    target_says (read_text (item_of (after_blanks (after_item y)))) x priority (place + length (item_of y) + length (run_of is_blank (after_item y))) (after_blanks (after_item y)) bytes
    (record {
      before = before;
      digits = item_of y;
      between = run_of is_blank (after_item y);
      text = text ∙ ap (λ xs. before ++ xs) split;
      blanks = blanks;
      number = priority_says (item_of y) priority is;
      blanks_between = run.valid;
      number_ends = subst EndsItem run.text one.ends;
      no_blank = run.longest;
      behind = omega (arith, behind);
      short = short;
    })
    refl

-- what is read is so in the grammar
pub record_says : (x : List ℕ) → AreBytes x → Says x (read_record_text x)
record_says x bytes = by (nat_lt 65535 (length x)) refl
  where
    by : (t : Bool) → nat_lt 65535 (length x) ≡ t → Says x (cond t (refused 65535 TooLong) (from_priority (length x) (0 + length (run_of is_blank x)) (after_blanks x)))
    by true is = inl (true_lt 65535 _ is, refl)
    by false is =
        let run = longest_run is_blank x in
        number_says (priority_of (read_delta_seconds (item_of (after_blanks x)))) x (run_of is_blank x) (after_blanks x) (0 + length (run_of is_blank x)) bytes (false_lt 65535 _ is) run.text run.valid run.longest (omega arith) refl

pub record_spells : (x : List ℕ) (value : Svcb) → AreBytes x → read_record_text x ≡ Ok value → SpellsRecordText x value
record_spells x value bytes e = subst (Says x) e (record_says x bytes)

pub record_refuses : (x : List ℕ) (q : ℕ) (reason : RecordTextRefusal) → AreBytes x → read_record_text x ≡ refused q reason → RecordTextRefusedAt x q reason
record_refuses x q reason bytes e = subst (Says x) e (record_says x bytes)

pub spelled_by : (r : Result Svcb (Refused RecordTextRefusal)) (x : List ℕ) → AreBytes x → Answers r (read_record_text x) → IfOk r (SpellsRecordText x)
spelled_by (Ok value) x bytes h = record_spells x value bytes h
spelled_by (Err e) x bytes h = tt

pub refused_by : (r : Result Svcb (Refused RecordTextRefusal)) (x : List ℕ) → AreBytes x → Answers r (read_record_text x) → IfRefused r (RecordTextRefusedAt x)
refused_by (Ok value) x bytes h = tt
refused_by (Err NoMemory) x bytes h = tt
refused_by (Err (RefusedThere place reason)) x bytes h = record_refuses x place reason bytes h
