-- The line of a response says it.
use Rattle.std.proofs.Common.{◌≡◌, ℕ, ◌<◌, ◌≤◌, ◌^◌, Bool, true, false, cond, nat_eq, List, [], ◌∷◌, ◌++◌, length, decimal, codes, Option, Some, None, append_assoc, append-nil, inl, refl, ap, sym, ◌∙◌, arith}
use Rattle.std.specs.Str.Parse.{AllDigits}
use Rattle.std.proofs.lemmas.Str.Parse.{digit_from_value}
use Rattle.std.proofs.lemmas.Fmt.{decimal_is_IsNumeral}
use Rattle.alt_base.proofs.Numbers.{le_true, true_eq}
use Rattle.field_text.specs.Runs.{AllIn, BeginsIn}
use Rattle.field_text.specs.DeltaGrammar.{greatest_delta_seconds}
use Rattle.field_text.proofs.DeltaLemmas.{decimal_spells}
use Rattle.http_header.specs.Token.{lowercase}
use Rattle.http_header.specs.FieldName.{IsFieldName}
use Rattle.http_header.proofs.TokenLemmas.{IsFieldName-from_test}
use Rattle.event_lines.specs.EventTexts.{age_text, altsvc_text, response_text}
use Rattle.event_lines.specs.Limits.{most_short}
use Rattle.event_lines.specs.Parts.{is_space}
use Rattle.event_lines.specs.LineGrammar.{SpellsStatus, SpellsResponse}
use Rattle.event_lines.specs.WordGrammar.{NoSpace, spaced, SpellsNumber}
use Rattle.event_lines.specs.ResponseGrammar.{Field, is_value_byte, EndsInSpace, IsValue, SpellsField, SpellFields, tabbed, most_fields, HaveAge, altsvc_of}

-- the value, if there is one, is that of one field
abbrev pub HasField : Option (List ℕ) → Type 0
HasField None = Unit {0}
HasField (Some value) = IsValue value

abbrev field : List ℕ → List ℕ → Field
field name value = record { name = name; value = value }

-- the value of a name that is written out, behind one space
field_written : (name value : List ℕ) → IsFieldName name → name ≡ lowercase name → IsValue value → SpellsField (name ++ 58 ∷ 32 ∷ value) (field name value)
field_written name value named lower valid = record {
  name = name;
  before = 32 ∷ [];
  after = [];
  spelled = ap (λ v. name ++ 58 ∷ 32 ∷ v) (sym (append-nil value));
  of_name = named;
  lower = lower;
  of_before = (refl, tt);
  of_after = tt;
  of_value = valid;
}

clash : false ≡ true → ⊥
clash e = cc

-- digits are a value
value_byte : (b : ℕ) → 32 ≤ b → b ≤ 126 → is_value_byte b ≡ true
value_byte b low high = rw (le_true 32 b low, le_true b 126 high) refl

digits_value : (ds : List ℕ) → AllDigits 10 ds → AllIn is_value_byte ds
digits_value [] h = tt
digits_value (d ∷ ds) h = let range = digit_from_value d h.0 in (value_byte d (omega (arith, range.0)) (omega (arith, range.1)), digits_value ds h.1)

other_from_same : (b : ℕ) → is_space b ≡ true → b ≡ 32
other_from_same b h = grind arith

begins_apart : (text : List ℕ) → NoSpace text → ¬ (BeginsIn is_space text)
begins_apart [] h = λ k. k
begins_apart (b ∷ bs) h = λ k. h.0 (other_from_same b k)

ends_apart : (text : List ℕ) → NoSpace text → ¬ (EndsInSpace text)
ends_apart [] h = λ k. k
ends_apart (b ∷ []) h = h.0
ends_apart (b ∷ c ∷ bs) h = ends_apart (c ∷ bs) h.1

pub number_value : (n : ℕ) → n < 2 ^ 64 → NoSpace (decimal n) → IsValue (decimal n)
number_value n small apart = record { bytes = digits_value (decimal n) (decimal_is_IsNumeral n small).0.1; begin = begins_apart (decimal n) apart; end = ends_apart (decimal n) apart }

-- the fields that are written, and their texts
abbrev pub age_fields : Bool → ℕ → List Field
age_fields true age = []
age_fields false age = field (codes "age") (decimal age) ∷ []

abbrev pub age_texts : Bool → ℕ → List (List ℕ)
age_texts true age = []
age_texts false age = (codes "age: " ++ decimal age) ∷ []

abbrev pub altsvc_fields : Option (List ℕ) → List Field
altsvc_fields None = []
altsvc_fields (Some value) = field (codes "alt-svc") value ∷ []

abbrev pub altsvc_texts : Option (List ℕ) → List (List ℕ)
altsvc_texts None = []
altsvc_texts (Some value) = (codes "alt-svc: " ++ value) ∷ []

pub fields_written : (zero : Bool) (age : ℕ) (altsvc : Option (List ℕ)) → IsValue (decimal age) → HasField altsvc → SpellFields (age_texts zero age ++ altsvc_texts altsvc) (age_fields zero age ++ altsvc_fields altsvc)
fields_written true age None valid h = tt
fields_written true age (Some value) valid h = (field_written (codes "alt-svc") value (IsFieldName-from_test (codes "alt-svc") refl) refl h, tt)
fields_written false age None valid h = (field_written (codes "age") (decimal age) (IsFieldName-from_test (codes "age") refl) refl valid, tt)
fields_written false age (Some value) valid h = (
  field_written (codes "age") (decimal age) (IsFieldName-from_test (codes "age") refl) refl valid,
  (field_written (codes "alt-svc") value (IsFieldName-from_test (codes "alt-svc") refl) refl h, tt),
)

pub few_written : (zero : Bool) (age : ℕ) (altsvc : Option (List ℕ)) → length (age_texts zero age ++ altsvc_texts altsvc) ≤ most_fields
few_written true age None = omega arith
few_written true age (Some value) = omega arith
few_written false age None = omega arith
few_written false age (Some value) = omega arith

pub tabs_written : (zero : Bool) (age : ℕ) (altsvc : Option (List ℕ)) → tabbed (age_texts zero age ++ altsvc_texts altsvc) ≡ cond zero [] (9 ∷ (codes "age: " ++ decimal age)) ++ altsvc_text altsvc
tabs_written true age None = refl
tabs_written true age (Some value) = simp append-nil
tabs_written false age None = simp append-nil
tabs_written false age (Some value) = simp (append_assoc, append-nil)

pub age_back : (zero : Bool) (age : ℕ) (altsvc : Option (List ℕ)) → nat_eq age 0 ≡ zero → age ≤ greatest_delta_seconds → HaveAge (age_fields zero age ++ altsvc_fields altsvc) age
age_back true age None is within = true_eq age 0 is
age_back true age (Some value) is within = true_eq age 0 is
age_back false age None is within = inl (decimal_spells age within)
age_back false age (Some value) is within = inl (decimal_spells age within)

pub altsvc_back : (zero : Bool) (age : ℕ) (altsvc : Option (List ℕ)) → altsvc ≡ altsvc_of (age_fields zero age ++ altsvc_fields altsvc)
altsvc_back true age None = refl
altsvc_back false age None = refl
altsvc_back true age (Some value) = ap (λ (v : List ℕ). let o : Option (List ℕ) = Some v in o) (sym (append-nil value))
altsvc_back false age (Some value) = ap (λ (v : List ℕ). let o : Option (List ℕ) = Some v in o) (sym (append-nil value))

response_spaced : (q s a v : List ℕ) → 32 ∷ (codes "response " ++ q ++ codes " " ++ s ++ a ++ v) ≡ spaced (codes "response" ∷ q ∷ s ∷ []) ++ (a ++ v)
response_spaced q s a v = simp (append_assoc, append-nil)

pub response_written : (request status age : ℕ) (altsvc : Option (List ℕ)) → HasField altsvc → IsValue (decimal age) → age ≤ greatest_delta_seconds → NoSpace (decimal request) → SpellsNumber most_short (decimal request) request
    → SpellsStatus (decimal status) status → SpellsResponse (32 ∷ response_text request status age altsvc) request status age altsvc
response_written request status age altsvc h valid within apart of_request of_status = record {
  request_text = decimal request;
  status_text = decimal status;
  field_texts = age_texts (nat_eq age 0) age ++ altsvc_texts altsvc;
  fields = age_fields (nat_eq age 0) age ++ altsvc_fields altsvc;
  spelled = response_spaced (decimal request) (decimal status) (age_text age) (altsvc_text altsvc)
      ∙ ap (λ t. spaced (codes "response" ∷ decimal request ∷ decimal status ∷ []) ++ t) (sym (tabs_written (nat_eq age 0) age altsvc));
  apart = apart;
  of_request = of_request;
  of_status = of_status;
  of_fields = fields_written (nat_eq age 0) age altsvc valid h;
  within = few_written (nat_eq age 0) age altsvc;
  of_age = age_back (nat_eq age 0) age altsvc refl within;
  of_altsvc = altsvc_back (nat_eq age 0) age altsvc;
}
