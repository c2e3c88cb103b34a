-- Reading the fields of a response one by one, with what they say so far.
use Rattle.std.proofs.Common.{◌≡◌, ℕ, ◌+◌, ◌-◌, ◌<◌, ◌≤◌, Bool, true, false, cond, not, nat_lt, List, [], ◌∷◌, ◌++◌, length, take, drop, length-drop, ◌^◌, codes, Option, Some, None, Result, unwrap_or, Ok, Err, append_assoc, append-nil, refl, ap, sym, ◌∙◌, arith}
use Rattle.std.proofs.lemmas.List.{take_all, nil_from_length}
use Rattle.alt_base.proofs.Numbers.{lt_true}
use Rattle.alt_base.specs.declared.refusal.At.{At}
use Rattle.alt_base.specs.declared.refusal.Refused.{Refused}
use Rattle.alt_base.specs.declared.refusal.Refused.TheVariants as refusal
use Rattle.field_text.specs.Runs.{run_of, after_run}
use Rattle.event_lines.specs.Reads.{MayGive}
use Rattle.event_lines.specs.Parts.{◌>>=◌, value_or, refused}
use Rattle.event_lines.specs.ResponseGrammar.{Field, is_tab, is_field_byte, most_fields, is_named, values_of, further_values, joined_values}
use Rattle.event_lines.specs.ResponseReading.{onto_first, field_texts, field_of, fields_from, fields_reading, seconds_of, first_seconds, reply_of, age_with, joined, altsvc_with, with_field}
use Rattle.event_lines.specs.declared.response.Reply.{Reply}
use Rattle.event_lines.specs.declared.refusal.LineRefusal.{LineRefusal}
use Rattle.event_lines.specs.declared.refusal.LineRefusal.TheVariants.{BadField}
use Rattle.field_text.proofs.RunLemmas.{taken_by}
use Rattle.event_lines.proofs.FieldParts.{dropped_by}

-- the texts behind the tab that a text begins with
abbrev pub behind_texts : List ℕ → List (List ℕ)
behind_texts [] = []
behind_texts (b ∷ bs) = field_texts bs

pub texts_split : (x : List ℕ) → field_texts x ≡ run_of is_field_byte x ∷ behind_texts (after_run is_field_byte x)
texts_split [] = refl
texts_split (b ∷ bs) = go (is_tab b) (texts_split bs)
  where
    go : (t : Bool) → field_texts bs ≡ run_of is_field_byte bs ∷ behind_texts (after_run is_field_byte bs)
        → cond t ([] ∷ field_texts bs) (onto_first b (field_texts bs)) ≡ cond (not t) (b ∷ run_of is_field_byte bs) [] ∷ behind_texts (cond (not t) (after_run is_field_byte bs) (b ∷ bs))
    go true is = refl
    go false is = ap (onto_first b) is

-- what fields add to what others said
abbrev pub with_fields : Reply → List Field → Reply
with_fields reply [] = reply
with_fields reply (field ∷ fields) = with_fields (with_field reply field) fields

abbrev pub Replied : Type 0
Replied = Result Reply (At LineRefusal)

abbrev pub replies : Reply → Replied
replies reply = Ok reply

-- the reading of further texts
abbrev pub read_on : Reply → ℕ → ℕ → List (List ℕ) → Replied
read_on reply count place texts = fields_from count place texts >>= λ fields. replies (with_fields reply fields)

abbrev reply : Option ℕ → Option (List ℕ) → Reply
reply age altsvc = record { age = age; altsvc = altsvc }

abbrev first_behind : Option ℕ → List (List ℕ) → Option ℕ
first_behind None values = first_seconds values
first_behind (Some age) values = Some age

abbrev joined_behind : Option (List ℕ) → List (List ℕ) → Option (List ℕ)
joined_behind None values = joined_values values
joined_behind (Some text) values = Some (text ++ further_values values)

one_age : (age : Option ℕ) (field : Field) (fields : List Field) → first_behind (age_with age field) (values_of (codes "age") fields) ≡ first_behind age (values_of (codes "age") (field ∷ fields))
one_age age field fields = go (is_named (codes "age") field) age
  where
    go : (t : Bool) (age : Option ℕ) → first_behind (cond t (Some (unwrap_or age (seconds_of field.value))) age) (values_of (codes "age") fields)
        ≡ first_behind age (cond t (field.value ∷ values_of (codes "age") fields) (values_of (codes "age") fields))
    go true None = refl
    go true (Some age) = refl
    go false age = refl

one_value : (altsvc : Option (List ℕ)) (field : Field) (fields : List Field)
    → joined_behind (altsvc_with altsvc field) (values_of (codes "alt-svc") fields) ≡ joined_behind altsvc (values_of (codes "alt-svc") (field ∷ fields))
one_value altsvc field fields = go (is_named (codes "alt-svc") field) altsvc
  where
    behind : (text value rest : List ℕ) → (text ++ codes ", " ++ value) ++ rest ≡ text ++ (codes ", " ++ (value ++ rest))
    behind text value rest = simp append_assoc

    go : (t : Bool) (altsvc : Option (List ℕ)) → joined_behind (cond t (Some (joined altsvc field.value)) altsvc) (values_of (codes "alt-svc") fields)
        ≡ joined_behind altsvc (cond t (field.value ∷ values_of (codes "alt-svc") fields) (values_of (codes "alt-svc") fields))
    go true None = refl
    go true (Some text) = ap (λ (t : List ℕ). let o : Option (List ℕ) = Some t in o) (behind text field.value (further_values (values_of (codes "alt-svc") fields)))
    go false altsvc = refl

all_added : (age : Option ℕ) (altsvc : Option (List ℕ)) (fields : List Field)
    → with_fields (reply age altsvc) fields ≡ reply (first_behind age (values_of (codes "age") fields)) (joined_behind altsvc (values_of (codes "alt-svc") fields))
all_added None None [] = refl
all_added None (Some text) [] = ap (λ (t : List ℕ). reply None (Some t)) (sym (append-nil text))
all_added (Some age) None [] = refl
all_added (Some age) (Some text) [] = ap (λ (t : List ℕ). reply (Some age) (Some t)) (sym (append-nil text))
all_added age altsvc (field ∷ fields) =
    all_added (age_with age field) (altsvc_with altsvc field) fields
    ∙ ap (λ a. reply a (joined_behind (altsvc_with altsvc field) (values_of (codes "alt-svc") fields))) (one_age age field fields)
    ∙ ap (reply (first_behind age (values_of (codes "age") (field ∷ fields)))) (one_value altsvc field fields)

-- at first nothing is said
pub read_begins : (place : ℕ) (text : List ℕ) → read_on (reply None None) 0 place (field_texts text) ≡ fields_reading place text
read_begins place text = go (fields_from 0 place (field_texts text))
  where
    go : (r : Result (List Field) (At LineRefusal)) → (r >>= λ fields. replies (with_fields (reply None None) fields)) ≡ (r >>= λ fields. replies (reply_of fields))
    go (Ok fields) = ap replies (all_added None None fields)
    go (Err at) = refl

-- one text more
one_more : (so_far : Reply) (count place : ℕ) (text : List ℕ) (texts : List (List ℕ)) → read_on so_far count place (text ∷ texts)
    ≡ (value_or BadField place (cond (nat_lt count most_fields) (field_of text) None) >>= λ (field : Field). read_on (with_field so_far field) (count + 1) (place + length text + 1) texts)
one_more so_far count place text texts = go (cond (nat_lt count most_fields) (field_of text) None) (fields_from (count + 1) (place + length text + 1) texts)
  where
    go : (o : Option Field) (r : Result (List Field) (At LineRefusal)) → ((value_or BadField place o >>= λ (field : Field). r >>= λ (fields : List Field). let all : Result (List Field) (At LineRefusal) = Ok (field ∷ fields) in all) >>= λ fields. replies (with_fields so_far fields))
        ≡ (value_or BadField place o >>= λ (field : Field). r >>= λ (fields : List Field). replies (with_fields (with_field so_far field) fields))
    go None r = refl
    go (Some field) (Ok fields) = refl
    go (Some field) (Err at) = refl

abbrev at_most : Reply → ℕ → ℕ → ℕ → List (List ℕ) → Option Field → Replied
at_most so_far count place length texts o = value_or BadField place o >>= λ (field : Field). read_on (with_field so_far field) (count + 1) (place + length + 1) texts

-- the first of the texts, by its length
pub one_step : (so_far : Reply) (count place n : ℕ) (rest : List ℕ) (o : Option Field) → count < most_fields → n ≡ length (run_of is_field_byte rest) → n ≤ length rest → o ≡ field_of (take n rest)
    → read_on so_far count place (field_texts rest) ≡ at_most so_far count place n (behind_texts (take (length rest - n) (drop n rest))) o
one_step so_far count place n rest o few is within read =
    ap (read_on so_far count place) (texts_split rest)
    ∙ one_more so_far count place (run_of is_field_byte rest) (behind_texts (after_run is_field_byte rest))
    ∙ ap (λ t. at_most so_far count place (length (run_of is_field_byte rest)) (behind_texts (after_run is_field_byte rest)) (cond t (field_of (run_of is_field_byte rest)) None)) (lt_true count most_fields few)
    ∙ ap (λ t. at_most so_far count place (length (run_of is_field_byte rest)) (behind_texts (after_run is_field_byte rest)) (field_of t)) (sym (taken_by is_field_byte rest n is))
    ∙ ap (at_most so_far count place (length (run_of is_field_byte rest)) (behind_texts (after_run is_field_byte rest))) (sym read)
    ∙ ap (λ m. at_most so_far count place m (behind_texts (after_run is_field_byte rest)) o) (sym is)
    ∙ ap (λ t. at_most so_far count place n (behind_texts t) o) (sym (dropped_by is_field_byte rest n is within))

-- no further one may be there
pub too_many : (so_far : Reply) (count place : ℕ) (rest : List ℕ) → count ≡ most_fields → read_on so_far count place (field_texts rest) ≡ refused place BadField
too_many so_far count place rest is =
    ap (λ n. read_on so_far n place (field_texts rest)) is ∙ ap (read_on so_far most_fields place) (texts_split rest)

-- a last text, which is a field
pub last_step : (so_far added : Reply) (count place n : ℕ) (rest : List ℕ) (field : Field) → count < most_fields → n ≡ length (run_of is_field_byte rest) → n ≤ length rest
    → Some field ≡ field_of (take n rest) → length (take (length rest - n) (drop n rest)) < 1 → added ≡ with_field so_far field → read_on so_far count place (field_texts rest) ≡ replies added
last_step so_far added count place n rest field few is within read short adds =
    one_step so_far count place n rest (Some field) few is within read
    ∙ ap (λ t. read_on (with_field so_far field) (count + 1) (place + n + 1) (behind_texts t)) (nil_from_length (take (length rest - n) (drop n rest)) (omega (arith, short)))
    ∙ ap replies (sym adds)

behind_first : (rest : List ℕ) → 1 ≤ length rest → behind_texts rest ≡ field_texts (take (length rest - 1) (drop 1 rest))
behind_first [] h = absurd (omega arith)
behind_first (b ∷ bs) h = ap field_texts (sym (take_all (length (b ∷ bs) - 1) bs (omega arith)))

one_place : (place n : ℕ) → place + n + 1 ≡ place + (n + 1)
one_place place n = omega arith

-- a text with others behind it, which is a field
pub next_step : (so_far added : Reply) (count place n : ℕ) (rest : List ℕ) (field : Field) → count < most_fields → n ≡ length (run_of is_field_byte rest) → n ≤ length rest
    → Some field ≡ field_of (take n rest) → 1 ≤ length (take (length rest - n) (drop n rest)) → added ≡ with_field so_far field
    → read_on so_far count place (field_texts rest)
    ≡ read_on added (count + 1) (place + (n + 1)) (field_texts (take (length (take (length rest - n) (drop n rest)) - 1) (drop 1 (take (length rest - n) (drop n rest)))))
next_step so_far added count place n rest field few is within read more adds =
    let behind = take (length rest - n) (drop n rest) in
    one_step so_far count place n rest (Some field) few is within read
    ∙ ap (read_on (with_field so_far field) (count + 1) (place + n + 1)) (behind_first behind more)
    ∙ ap (λ p. read_on (with_field so_far field) (count + 1) p (field_texts (take (length behind - 1) (drop 1 behind)))) (one_place place n)
    ∙ ap (λ r. read_on r (count + 1) (place + (n + 1)) (field_texts (take (length behind - 1) (drop 1 behind)))) (sym adds)

-- a refusal at the place is the reading's
pub bad_at : {A : Type 0} (e : Refused LineRefusal) (at : At LineRefusal) (place : ℕ) (reading : Result A (At LineRefusal)) → e ≡ refusal.At at.place at.reason → at ≡ record { place = place; reason = BadField }
    → reading ≡ refused place BadField → MayGive (Err e) reading
bad_at {A} refusal.NoMemory at place reading h is k = tt
bad_at {A} (refusal.At p reason) at place reading h is k =
    let same_place : place ≡ p = cc in
    let same_reason : BadField ≡ reason = cc in
    k ∙ ap (λ (n : ℕ). let r : Result A (At LineRefusal) = refused n BadField in r) same_place ∙ ap (λ (w : LineRefusal). let r : Result A (At LineRefusal) = refused p w in r) same_reason

-- what is left ends within the line
pub small_step : (place n : ℕ) (rest : List ℕ) → place + length rest < 2 ^ 32 → n ≤ length rest → 1 ≤ length (take (length rest - n) (drop n rest))
    → place + (n + 1) + length (take (length (take (length rest - n) (drop n rest)) - 1) (drop 1 (take (length rest - n) (drop n rest)))) < 2 ^ 32
small_step place n rest small within more =
    let behind = take (length rest - n) (drop n rest) in
    let all : behind ≡ drop n rest = take_all (length rest - n) (drop n rest) (omega (arith, length-drop n rest)) in
    let left : take (length behind - 1) (drop 1 behind) ≡ drop 1 behind = take_all (length behind - 1) (drop 1 behind) (omega (arith, length-drop 1 behind)) in
    omega (arith, ap length left, length-drop 1 behind, ap length all, length-drop n rest)
