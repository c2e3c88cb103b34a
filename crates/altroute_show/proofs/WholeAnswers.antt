-- What the commands that read their whole input give, by the grammars.
use Rattle.std.proofs.Common.{◌≡◌, ℕ, List, codes, Result, Ok, Err, refl, ap, sym, ◌∙◌, subst, inl}
use Rattle.dns_names.specs.Names.{AreBytes}
use Rattle.alt_base.specs.declared.refusal.At.{At}
use Rattle.altsvc_grammar.specs.declared.alt_svc.AltSvc.{AltSvc}
use Rattle.altsvc_grammar.specs.declared.refusal.AltRefusal.{AltRefusal}
use Rattle.altsvc_grammar.specs.RefusalNumbers.{refusal_number}
use Rattle.altsvc_grammar.specs.ValueGrammar.{SpellsValue}
use Rattle.altsvc_grammar.specs.ValueRefusals.{ValueRefusedAt}
use Rattle.altsvc_grammar.specs.ValueReading.{read_value}
use Rattle.altsvc_grammar.specs.Shown.{show_lines}
use Rattle.altsvc_grammar.proofs.Meanings.{value_spelled}
use Rattle.altsvc_grammar.proofs.RefusedValues.{value_refused}
use Rattle.altsvc_grammar.proofs.EveryValue.{read_spelled, read_refused}
use Rattle.hex.specs.Hex.{encode_lower, decode_of}
use Rattle.hex.specs.declared.error.FromHexError.{FromHexError}
use Rattle.hex_text.specs.HexGrammar.{SpellsHex}
use Rattle.hex_text.proofs.HexReading.{hex_read, hex_spelled}
use Rattle.svcb_wire.specs.declared.svcb.Svcb.{Svcb}
use Rattle.svcb_wire.specs.declared.refusal.WireRefusal.{WireRefusal}
use Rattle.svcb_wire.specs.RecordGrammar.{SpellsRecord, RecordRefusedAt}
use Rattle.svcb_wire.specs.RecordReading.{read_record}
use Rattle.svcb_wire.specs.Records.{IsRecord, record_octets}
use Rattle.svcb_wire.proofs.RecordSays.{read_says, refusal_says}
use Rattle.svcb_wire.specs.RefusalNumbers.{refusal_number as wire_refusal_number}
use Rattle.svcb_wire.proofs.RecordSpelled.{spelled_reads, refused_reads, record_spelled as octets_spell}
use Rattle.svcb_text.specs.declared.refusal.RecordTextRefusal.{RecordTextRefusal}
use Rattle.svcb_text.specs.RefusalNumbers.{text_refusal_number}
use Rattle.svcb_text.specs.TextGrammar.{SpellsRecordText}
use Rattle.svcb_text.specs.TextRefusals.{RecordTextRefusedAt}
use Rattle.svcb_text.specs.TextReading.{read_record_text}
use Rattle.svcb_text.proofs.RecordSays.{record_spells, record_refuses}
use Rattle.svcb_text.proofs.RecordSpelled.{record_spelled, record_refused}
use Rattle.svcb_text.proofs.SpelledRecords.{spelled_record}
use Rattle.altroute_show.specs.declared.given.Given.TheVariants.{Shown, Refused}
use Rattle.altroute_show.specs.declared.record_form.RecordForm.{RecordForm}
use Rattle.altroute_show.specs.declared.record_form.RecordForm.TheVariants.{Text, Json}
use Rattle.altroute_show.specs.declared.whole_command.WholeCommand.TheVariants.{ShowAltSvc, WriteHttps}
use Rattle.altroute_show.specs.Given.{altsvc_reading_given, record_given, octets_given, text_reading_given, form_line, octets_line, refused_at, given_for}
use Rattle.altroute_show.specs.InputTexts.{IsInput}
use Rattle.altroute_show.specs.Answers.{IsGivenBy, showing}
use Rattle.altroute_show.proofs.InputTexts.{text_of, octets_are}
use Rattle.altroute_show.proofs.RecordBytes.{digits_spell}

-- `show altsvc`

altsvc_is : (input text : List ℕ) → IsInput input text → given_for ShowAltSvc input ≡ altsvc_reading_given (read_value text)
altsvc_is input text is = ap (λ x. altsvc_reading_given (read_value x)) (text_of input text is)

pub value_shown : (input text : List ℕ) (value : AltSvc) → IsInput input text → SpellsValue text value → given_for ShowAltSvc input ≡ Shown (show_lines value)
value_shown input text value is s = altsvc_is input text is ∙ ap altsvc_reading_given (value_spelled text value s)

pub value_refused_so : (input text : List ℕ) (q : ℕ) (reason : AltRefusal) → IsInput input text → ValueRefusedAt text q reason → given_for ShowAltSvc input ≡ Refused (refused_at (refusal_number reason) q)
value_refused_so input text q reason is s = altsvc_is input text is ∙ ap altsvc_reading_given (value_refused text q reason s)

value_by : (text : List ℕ) (r : Result AltSvc (At AltRefusal)) → read_value text ≡ r → IsGivenBy (SpellsValue text) (ValueRefusedAt text) show_lines refusal_number (altsvc_reading_given r)
value_by text (Ok value) e = (value, read_spelled text value e, refl)
value_by text (Err at) e = (at.place, at.reason, read_refused text at e, refl)

pub value_only : (input text : List ℕ) → IsInput input text → IsGivenBy (SpellsValue text) (ValueRefusedAt text) show_lines refusal_number (given_for ShowAltSvc input)
value_only input text is = subst (IsGivenBy (SpellsValue text) (ValueRefusedAt text) show_lines refusal_number) (sym (altsvc_is input text is)) (value_by text (read_value text) refl)

-- `show https`

https_is : (form : RecordForm) (input digits : List ℕ) → IsInput input digits → given_for (showing form) input ≡ octets_given form (decode_of digits)
https_is Text input digits is = ap (λ x. octets_given Text (decode_of x)) (text_of input digits is)
https_is Json input digits is = ap (λ x. octets_given Json (decode_of x)) (text_of input digits is)

octets_are_read : (form : RecordForm) (input digits octets : List ℕ) → IsInput input digits → SpellsHex digits octets → given_for (showing form) input ≡ record_given form (read_record octets)
octets_are_read form input digits octets is s = https_is form input digits is ∙ ap (octets_given form) (hex_read digits octets s)

pub record_shown : (form : RecordForm) (input digits octets : List ℕ) (value : Svcb) → IsInput input digits → SpellsHex digits octets → SpellsRecord octets value → given_for (showing form) input ≡ Shown (form_line form value)
record_shown form input digits octets value is hex s = octets_are_read form input digits octets is hex ∙ ap (record_given form) (spelled_reads octets value s)

pub record_refused_so : (form : RecordForm) (input digits octets : List ℕ) (q : ℕ) (reason : WireRefusal) → IsInput input digits → SpellsHex digits octets → RecordRefusedAt octets q reason → given_for (showing form) input ≡ Refused (refused_at (wire_refusal_number reason) q)
record_refused_so form input digits octets q reason is hex s = octets_are_read form input digits octets is hex ∙ ap (record_given form) (refused_reads octets q reason (octets_are digits octets hex) s)

record_by : (form : RecordForm) (octets : List ℕ) (r : Result Svcb (At WireRefusal)) → AreBytes octets → read_record octets ≡ r → IsGivenBy (SpellsRecord octets) (RecordRefusedAt octets) (form_line form) wire_refusal_number (record_given form r)
record_by form octets (Ok value) bytes e = (value, read_says octets value bytes e, refl)
record_by form octets (Err at) bytes e = (at.place, at.reason, refusal_says octets at.place at.reason bytes e, refl)

pub record_only : (form : RecordForm) (input digits octets : List ℕ) → IsInput input digits → SpellsHex digits octets → IsGivenBy (SpellsRecord octets) (RecordRefusedAt octets) (form_line form) wire_refusal_number (given_for (showing form) input)
record_only form input digits octets is hex =
    subst (IsGivenBy (SpellsRecord octets) (RecordRefusedAt octets) (form_line form) wire_refusal_number) (sym (octets_are_read form input digits octets is hex))
    (record_by form octets (read_record octets) (octets_are digits octets hex) refl)

no_octets : (form : RecordForm) (r : Result (List ℕ) FromHexError) → ((octets : List ℕ) → r ≡ Ok octets → ⊥) → octets_given form r ≡ Refused (codes "refused hex\n")
no_octets form (Ok octets) none = absurd (none octets refl)
no_octets form (Err error) none = refl

pub no_hex_refused : (form : RecordForm) (input digits : List ℕ) → IsInput input digits → ((octets : List ℕ) → SpellsHex digits octets → ⊥) → given_for (showing form) input ≡ Refused (codes "refused hex\n")
no_hex_refused form input digits is none = https_is form input digits is ∙ no_octets form (decode_of digits) (λ octets e. none octets (hex_spelled digits octets e))

-- `write https`

text_is : (input text : List ℕ) → IsInput input text → given_for WriteHttps input ≡ text_reading_given (read_record_text text)
text_is input text is = ap (λ x. text_reading_given (read_record_text x)) (text_of input text is)

pub text_written : (input text : List ℕ) (value : Svcb) → IsInput input text → SpellsRecordText text value → given_for WriteHttps input ≡ Shown (octets_line value)
text_written input text value is s = text_is input text is ∙ ap text_reading_given (record_spelled text value s)

pub text_refused_so : (input text : List ℕ) (q : ℕ) (reason : RecordTextRefusal) → AreBytes text → IsInput input text → RecordTextRefusedAt text q reason → given_for WriteHttps input ≡ Refused (refused_at (text_refusal_number reason) q)
text_refused_so input text q reason bytes is s = text_is input text is ∙ ap text_reading_given (record_refused text q reason bytes s)

text_by : (text : List ℕ) (r : Result Svcb (At RecordTextRefusal)) → AreBytes text → read_record_text text ≡ r → IsGivenBy (SpellsRecordText text) (RecordTextRefusedAt text) octets_line text_refusal_number (text_reading_given r)
text_by text (Ok value) bytes e = (value, record_spells text value bytes e, refl)
text_by text (Err at) bytes e = (at.place, at.reason, record_refuses text at.place at.reason bytes e, refl)

pub text_only : (input text : List ℕ) → AreBytes text → IsInput input text → IsGivenBy (SpellsRecordText text) (RecordTextRefusedAt text) octets_line text_refusal_number (given_for WriteHttps input)
text_only input text bytes is = subst (IsGivenBy (SpellsRecordText text) (RecordTextRefusedAt text) octets_line text_refusal_number) (sym (text_is input text is)) (text_by text (read_record_text text) bytes refl)

pub written_shown : (form : RecordForm) (text : List ℕ) (value : Svcb) → AreBytes text → SpellsRecordText text value → given_for (showing form) (octets_line value) ≡ Shown (form_line form value)
written_shown form text value bytes s =
    let is : IsRecord value = spelled_record text value bytes s in
    record_shown form (octets_line value) (encode_lower (record_octets value)) (record_octets value) value (inl refl) (digits_spell value is) (octets_spell value is s.sized)
