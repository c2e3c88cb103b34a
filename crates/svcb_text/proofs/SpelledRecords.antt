-- What a text spells is a record.
use Rattle.std.proofs.Common.{◌≡◌, ℕ, ◌≤◌, List, [], ◌∷◌, ◌++◌, length, Result, Ok, Err, IfOk, refl, sym, subst, arith}
use Rattle.std.specs.Int.{bytes_high_first}
use Rattle.std.proofs.lemmas.List.{length-append}
use Rattle.alt_base.specs.declared.refusal.Refused.{Refused}
use Rattle.dns_names.specs.Names.{AreBytes, wire_form}
use Rattle.dns_names.proofs.TextNames.{spelled_name}
use Rattle.svcb_wire.specs.declared.param.Param.{Param}
use Rattle.svcb_wire.specs.declared.svcb.Svcb.{Svcb}
use Rattle.svcb_wire.specs.Octets.{params_octets}
use Rattle.svcb_wire.specs.Records.{IsRecord}
use Rattle.dns_names.proofs.Bytes.{bytes_back}
use Rattle.svcb_text.specs.declared.refusal.RecordTextRefusal.{RecordTextRefusal}
use Rattle.alt_base.specs.Answers.{Answers}
use Rattle.svcb_values.specs.StringGrammar.{EndsItem}
use Rattle.svcb_text.specs.TextGrammar.{given_key, given_head, given_string, given_value, front_text, Spaced, spaced_texts, SpellEach, SpellsRecordText}
use Rattle.svcb_text.specs.TextReading.{read_record_text}
use Rattle.svcb_values.proofs.ValueLaws.{value_has_form}
use Rattle.svcb_text.proofs.ParamKeys.{in_order, order_is, HaveForms, AreFormed, distinct_fresh, formed_all, params_are}
use Rattle.svcb_text.proofs.Items.{blanks_end}
use Rattle.svcb_text.proofs.FirstParam.{IsFirst}
use Rattle.svcb_text.proofs.FirstRead.{value_bytes}
use Rattle.svcb_text.proofs.ParamPasses.{ends_before, spaced_split}
use Rattle.svcb_text.proofs.RecordSays.{record_spells}

-- each parameter is of its key's form
each_forms : (ss : List Spaced) (params : List Param) (tail : List ℕ) → AreBytes (spaced_texts ss ++ tail) → SpellEach ss params → EndsItem tail → HaveForms params
each_forms [] [] tail bytes each ends = tt
each_forms [] (p ∷ ps) tail bytes each ends = absurd each
each_forms (s ∷ ss) [] tail bytes each ends = absurd each
each_forms (s ∷ ss) (p ∷ ps) tail bytes each ends =
    let more = spaced_texts ss ++ tail in
    let y = given_head s.given ++ (given_string s.given ++ more) in
    let split : spaced_texts (s ∷ ss) ++ tail ≡ s.blanks ++ y = spaced_split s ss tail in
    let behind : AreBytes y = bytes_back s.blanks y (subst AreBytes split bytes) in
    let rest : AreBytes more = bytes_back (given_string s.given) more (bytes_back (given_head s.given) (given_string s.given ++ more) behind) in
    let first : IsFirst [] y s.given more = record { text = refl; is_given = each.0.given; ends = ends_before ss ps tail each.1 ends; is_new = refl } in
    let value = value_bytes [] y s.given more first behind in
    (value_has_form (given_key s.given) (given_value s.given) p each.0.given.key value each.0.value, each_forms ss ps tail rest each.1 ends)

back_most : (a b c : List ℕ) → length (a ++ (b ++ c)) ≤ 65535 → length c ≤ 65535
back_most a b c h = omega (arith, length-append a (b ++ c), length-append b c)

pub spelled_record : (x : List ℕ) (value : Svcb) → AreBytes x → SpellsRecordText x value → IsRecord value
spelled_record x value bytes s =
    let f = s.form in
    let ends = blanks_end f.behind f.blanks in
    let behind : AreBytes (spaced_texts f.spaced ++ f.behind) = bytes_back (front_text f.front) (spaced_texts f.spaced ++ f.behind) (subst AreBytes f.text bytes) in
    let forms = each_forms f.spaced f.params f.behind behind f.each ends in
    let formed : AreFormed 0 (in_order f.params) = formed_all [] f.params forms (distinct_fresh f.params f.distinct) tt in
    let formed_is : AreFormed 0 value.params = subst (AreFormed 0) (sym (order_is f.params value.params f.distinct f.order)) formed in
    let most : length (params_octets value.params) ≤ 65535 = back_most (bytes_high_first 2 value.priority) (wire_form value.target) (params_octets value.params) s.sized in
    record {
      priority = omega (arith, f.begins.number.most);
      target = spelled_name f.front.target value.target f.begins.named;
      params = params_are 0 value.params formed_is most;
    }

pub record_by : (r : Result Svcb (Refused RecordTextRefusal)) (x : List ℕ) → AreBytes x → Answers r (read_record_text x) → IfOk r IsRecord
record_by (Ok value) x bytes h = spelled_record x value bytes (record_spells x value bytes h)
record_by (Err e) x bytes h = tt
