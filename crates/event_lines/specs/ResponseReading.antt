-- Reading the status of a response, and its fields.
use Rattle.std.specs.Prelude.{ℕ, ◌+◌, Bool, not, ◌&&◌, nat_eq, nat_lt, List, [], ◌∷◌, ◌++◌, length, codes, Option, Some, None, Result, Ok, unwrap_or, if◌then◌else◌}
use Rattle.std.specs.List.{list_all}
use Rattle.alt_base.specs.declared.refusal.At.{At}
use Rattle.field_text.specs.Runs.{run_of, after_run}
use Rattle.field_text.specs.DeltaReading.{read_delta_seconds}
use Rattle.http_header.specs.Token.{lowercase}
use Rattle.http_header.specs.FieldName.{is_field_name}
use Rattle.event_lines.specs.Fields.{status_of}
use Rattle.event_lines.specs.Parts.{Part, is_space, refused, Reading, ◌>>=◌, value_or}
use Rattle.event_lines.specs.ResponseGrammar.{Field, is_value_byte, is_tab, is_word_byte, most_fields, is_named, values_of, joined_values}
use Rattle.event_lines.specs.declared.response.Reply.{Reply}
use Rattle.event_lines.specs.declared.refusal.LineRefusal.{LineRefusal}
use Rattle.event_lines.specs.declared.refusal.LineRefusal.TheVariants.{BadField}

-- the word in front, up to a space, a tab or the end, and what is left behind it
abbrev pub short_word : Part → Part
short_word part = record { text = run_of is_word_byte part.text; place = part.place }

abbrev pub behind_short_word : Part → Part
behind_short_word part = record { text = after_run is_word_byte part.text; place = part.place + length (run_of is_word_byte part.text) }

-- that word behind the space that what is left begins with
abbrev pub short_word_behind : List ℕ → ℕ → Reading Part
short_word_behind [] place = refused place BadField
short_word_behind (space ∷ text) place =
    Ok (short_word (record { text = text; place = place + 1 }), behind_short_word (record { text = text; place = place + 1 }))

abbrev pub next_short_word : Part → Reading Part
next_short_word rest = short_word_behind rest.text rest.place

-- the status of a response
abbrev pub status_reading : Part → Reading ℕ
status_reading rest = do
  word ← next_short_word rest
  status ← value_or BadField word.0.place (status_of word.0.text)
  Ok (status, word.1)

-- a byte, and what is left without its last spaces
abbrev pub onto_trimmed : ℕ → List ℕ → List ℕ
onto_trimmed b [] = if is_space b then [] else b ∷ []
onto_trimmed b (c ∷ cs) = b ∷ c ∷ cs

abbrev pub without_last_spaces : List ℕ → List ℕ
without_last_spaces [] = []
without_last_spaces (b ∷ bs) = onto_trimmed b (without_last_spaces bs)

-- without the spaces at both ends
abbrev pub trimmed : List ℕ → List ℕ
trimmed text = without_last_spaces (after_run is_space text)

-- whether a text is the name of a field
unfoldable pub is_name : List ℕ → Bool
is_name text = is_field_name text

abbrev pub is_before_colon : ℕ → Bool
is_before_colon b = not (nat_eq b 58)

-- a name and a value
abbrev pub field_from : List ℕ → List ℕ → Option Field
field_from name value =
    if is_name name && list_all is_value_byte value then Some (record { name = lowercase name; value = value }) else None

-- a name and what follows it
abbrev pub field_behind : List ℕ → List ℕ → Option Field
field_behind name [] = None
field_behind name (colon ∷ value) = field_from name (trimmed value)

abbrev pub field_of : List ℕ → Option Field
field_of text = field_behind (run_of is_before_colon text) (after_run is_before_colon text)

-- a byte in front of the first of some texts
abbrev pub onto_first : ℕ → List (List ℕ) → List (List ℕ)
onto_first b [] = (b ∷ []) ∷ []
onto_first b (text ∷ texts) = (b ∷ text) ∷ texts

-- the texts between tabs
abbrev pub field_texts : List ℕ → List (List ℕ)
field_texts [] = [] ∷ []
field_texts (b ∷ bs) = if is_tab b then [] ∷ field_texts bs else onto_first b (field_texts bs)

-- the fields of texts, so many fields after the first, the first of them at a place, and each behind one byte
abbrev pub fields_from : ℕ → ℕ → List (List ℕ) → Result (List Field) (At LineRefusal)
fields_from count place [] = Ok []
fields_from count place (text ∷ texts) =
    value_or BadField place (if nat_lt count most_fields then field_of text else None) >>= λ field.
    fields_from (count + 1) (place + length text + 1) texts >>= λ fields. Ok (field ∷ fields)

-- the seconds that are read of a value, 0 where it is no number of seconds
abbrev pub seconds_of : List ℕ → ℕ
seconds_of value = unwrap_or (read_delta_seconds value) 0

-- those of the first value
abbrev pub first_seconds : List (List ℕ) → Option ℕ
first_seconds [] = None
first_seconds (value ∷ values) = Some (seconds_of value)

-- those of the first Age field, 0 where there is none
abbrev pub age_of : List Field → ℕ
age_of fields = unwrap_or (first_seconds (values_of (codes "age") fields)) 0

-- what fields say
abbrev pub reply_of : List Field → Reply
reply_of fields = record { age = first_seconds (values_of (codes "age") fields); altsvc = joined_values (values_of (codes "alt-svc") fields) }

-- what one field more adds
abbrev pub age_with : Option ℕ → Field → Option ℕ
age_with age field = if is_named (codes "age") field then Some (unwrap_or age (seconds_of field.value)) else age

abbrev pub joined : Option (List ℕ) → List ℕ → List ℕ
joined None value = value
joined (Some text) value = text ++ codes ", " ++ value

abbrev pub altsvc_with : Option (List ℕ) → Field → Option (List ℕ)
altsvc_with altsvc field = if is_named (codes "alt-svc") field then Some (joined altsvc field.value) else altsvc

abbrev pub with_field : Reply → Field → Reply
with_field reply field = record { age = age_with reply.age field; altsvc = altsvc_with reply.altsvc field }

-- what the fields of a text say, the first of them at a place
abbrev pub fields_reading : ℕ → List ℕ → Result Reply (At LineRefusal)
fields_reading place text = fields_from 0 place (field_texts text) >>= λ fields. Ok (reply_of fields)

-- the fields behind the tab that what is left may begin with
abbrev pub reply_behind : List ℕ → ℕ → Reading Reply
reply_behind [] place = Ok (reply_of [], record { text = []; place = place })
reply_behind (b ∷ bs) place =
    if is_tab b then (fields_reading (place + 1) bs >>= λ reply. Ok (reply, record { text = []; place = place + 1 + length bs }))
    else Ok (reply_of [], record { text = b ∷ bs; place = place })

abbrev pub reply_reading : Part → Reading Reply
reply_reading rest = reply_behind rest.text rest.place
