-- The text of a record spells it.
use Rattle.std.proofs.Common.{◌≡◌, ℕ, suc, ◌<◌, ◌≤◌, List, [], ◌∷◌, ◌++◌, length, decimal, refl, ap, sym, ◌∙◌, arith, append_assoc, append-nil}
use Rattle.std.proofs.lemmas.Fmt.{decimal_is_IsNumeral}
use Rattle.dns_names.specs.TextParts.{text_form}
use Rattle.dns_names.proofs.TextNames.{name_spelled}
use Rattle.svcb_wire.specs.declared.param.Param.{Param}
use Rattle.svcb_wire.specs.declared.svcb.Svcb.{Svcb}
use Rattle.svcb_wire.specs.Octets.{key_of}
use Rattle.svcb_wire.specs.Forms.{AreParams}
use Rattle.svcb_wire.specs.Records.{IsRecord, record_octets}
use Rattle.svcb_text.specs.TextGrammar.{AreBlanks, given_head, given_string, Spaced, spaced_texts, SpellEach, SpellsPriority, Front, front_text, SpellsFront, IsAllowed, HasForm, SpellsRecordText}
use Rattle.svcb_text.specs.Written.{params_written, record_text}
use Rattle.svcb_text.proofs.WrittenOrder.{params_order, params_distinct}
use Rattle.svcb_text.proofs.WrittenValues.{given_of, given_text, is_given, value_spelled}

-- one space
one_blank : AreBlanks (32 ∷ [])
one_blank = record { some = λ e. cc; all = (refl, tt) }

-- parameters, each behind a space
abbrev spaced_of : Param → Spaced
spaced_of param = record { blanks = 32 ∷ []; given = given_of param }

abbrev all_spaced : List Param → List Spaced
all_spaced [] = []
all_spaced (param ∷ params) = spaced_of param ∷ all_spaced params

all_texts : (params : List Param) → params_written params ≡ spaced_texts (all_spaced params)
all_texts [] = refl
all_texts (param ∷ params) = one (given_head (given_of param)) (given_string (given_of param)) _ _ _ (given_text param) (all_texts params)
  where
    one : (head string text more rest : List ℕ) → head ++ string ≡ text → more ≡ rest → 32 ∷ (text ++ more) ≡ (32 ∷ [] ++ (head ++ string)) ++ rest
    one head string text more rest e f = cc

each_spelled : (least : ℕ) (params : List Param) → AreParams least params → SpellEach (all_spaced params) params
each_spelled least [] are = tt
each_spelled least (param ∷ params) are =
    (record { blanks = one_blank; given = is_given param are.1.form; value = value_spelled param are.1.form }, each_spelled (suc (key_of param)) params are.2)

-- the priority and the target
abbrev front_of : Svcb → Front
front_of value = record { before = []; digits = decimal value.priority; between = 32 ∷ []; target = text_form value.target }

priority_spelled : (priority : ℕ) → priority < 65536 → SpellsPriority (decimal priority) priority
priority_spelled priority h =
    let digits = decimal_is_IsNumeral priority (omega arith) in
    record { numeral = digits.0; value = sym digits.1; most = omega arith }

front_spelled : (value : Svcb) → IsRecord value → SpellsFront (front_of value) value.priority value.target
front_spelled value is = record { before = tt; number = priority_spelled value.priority is.priority; between = one_blank; named = name_spelled value.target is.target }

in_parts : (digits target params : List ℕ) → digits ++ 32 ∷ (target ++ params) ≡ (digits ++ 32 ∷ target) ++ (params ++ [])
in_parts digits target params = ap (λ xs. digits ++ 32 ∷ (target ++ xs)) (sym (append-nil params)) ∙ sym (append_assoc digits (32 ∷ target) (params ++ []))

text_split : (value : Svcb) → record_text value ≡ front_text (front_of value) ++ (spaced_texts (all_spaced value.params) ++ [])
text_split value =
    in_parts (decimal value.priority) (text_form value.target) (params_written value.params) ∙ ap (λ xs. front_text (front_of value) ++ (xs ++ [])) (all_texts value.params)

form_written : (value : Svcb) → IsRecord value → length (record_text value) ≤ 65535 → HasForm (record_text value) value
form_written value is short = record {
  front = front_of value;
  spaced = all_spaced value.params;
  params = value.params;
  behind = [];
  text = text_split value;
  begins = front_spelled value is;
  each = each_spelled 0 value.params is.params;
  blanks = tt;
  distinct = params_distinct 0 value.params is.params;
  order = params_order value.params is.params;
  short = short;
}

pub written_spells : (value : Svcb) → IsRecord value → IsAllowed value → length (record_octets value) ≤ 65535 → length (record_text value) ≤ 65535 → SpellsRecordText (record_text value) value
written_spells value is allowed sized short = record { form = form_written value is short; allowed = allowed; sized = sized }
