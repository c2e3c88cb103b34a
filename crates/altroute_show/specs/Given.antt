-- What the commands that read their whole input write for it.
use Rattle.std.specs.Prelude.{ℕ, ◌-◌, List, ◌++◌, length, take, get_or, codes, nat_eq, Result, Ok, Err, if◌then◌else◌}
use Rattle.std.specs.Fmt.{decimal}
use Rattle.alt_base.specs.declared.refusal.At.{At}
use Rattle.altsvc_grammar.specs.declared.alt_svc.AltSvc.{AltSvc}
use Rattle.altsvc_grammar.specs.declared.refusal.AltRefusal.{AltRefusal}
use Rattle.altsvc_grammar.specs.RefusalNumbers.{refusal_number}
use Rattle.altsvc_grammar.specs.ValueReading.{read_value}
use Rattle.altsvc_grammar.specs.Shown.{show_lines}
use Rattle.hex.specs.Hex.{decode_of, encode_lower}
use Rattle.hex.specs.declared.error.FromHexError.{FromHexError}
use Rattle.svcb_wire.specs.declared.svcb.Svcb.{Svcb}
use Rattle.svcb_wire.specs.declared.refusal.WireRefusal.{WireRefusal}
use Rattle.svcb_wire.specs.RecordReading.{read_record}
use Rattle.svcb_wire.specs.Records.{record_octets}
use Rattle.svcb_wire.specs.RefusalNumbers.{refusal_number as wire_refusal_number}
use Rattle.svcb_text.specs.declared.refusal.RecordTextRefusal.{RecordTextRefusal}
use Rattle.svcb_text.specs.RefusalNumbers.{text_refusal_number}
use Rattle.svcb_text.specs.TextReading.{read_record_text}
use Rattle.svcb_text.specs.Written.{record_text}
use Rattle.altroute_show.specs.RecordJson.{record_line}
use Rattle.altroute_show.specs.declared.given.Given.{Given}
use Rattle.altroute_show.specs.declared.record_form.RecordForm.{RecordForm}
use Rattle.altroute_show.specs.declared.record_form.RecordForm.TheVariants.{Text, Json}
use Rattle.altroute_show.specs.declared.whole_command.WholeCommand.{WholeCommand}
use Rattle.altroute_show.specs.declared.whole_command.WholeCommand.TheVariants.{ShowAltSvc, ShowHttps, ShowHttpsJson, WriteHttps}
use Rattle.altroute_show.specs.declared.given.Given.TheVariants.{Shown, Refused}

-- the input without the one newline that may end it
abbrev pub without_newline : List ℕ → List ℕ
without_newline input = if nat_eq (get_or input (length input - 1) 0) 10 then take (length input - 1) input else input

-- the line of a decoder's refusal, by its number and its place
abbrev pub refused_at : ℕ → ℕ → List ℕ
refused_at number place = codes "refused " ++ decimal number ++ codes " at " ++ decimal place ++ codes "\n"

-- the text that is written
abbrev pub given_text : Given → List ℕ
given_text (Shown text) = text
given_text (Refused text) = text

-- `show altsvc`: a line for each alternative, or `clear`
abbrev pub altsvc_reading_given : Result AltSvc (At AltRefusal) → Given
altsvc_reading_given (Ok value) = Shown (show_lines value)
altsvc_reading_given (Err at) = Refused (refused_at (refusal_number at.reason) at.place)

abbrev pub altsvc_given : List ℕ → Given
altsvc_given input = altsvc_reading_given (read_value (without_newline input))

-- `show https` and `show https --json`: the record of octets in hex, as one line of text or as JSON
abbrev pub form_line : RecordForm → Svcb → List ℕ
form_line Text value = record_text value ++ codes "\n"
form_line Json value = record_line value

abbrev pub record_given : RecordForm → Result Svcb (At WireRefusal) → Given
record_given form (Ok value) = Shown (form_line form value)
record_given form (Err at) = Refused (refused_at (wire_refusal_number at.reason) at.place)

-- an input that isn't hex has no place
abbrev pub octets_given : RecordForm → Result (List ℕ) FromHexError → Given
octets_given form (Ok octets) = record_given form (read_record octets)
octets_given form (Err error) = Refused (codes "refused hex\n")

abbrev pub hex_given : RecordForm → List ℕ → Given
hex_given form input = octets_given form (decode_of (without_newline input))

-- `write https`: the octets of the record that a text spells, in hex
abbrev pub octets_line : Svcb → List ℕ
octets_line value = encode_lower (record_octets value) ++ codes "\n"

abbrev pub text_reading_given : Result Svcb (At RecordTextRefusal) → Given
text_reading_given (Ok value) = Shown (octets_line value)
text_reading_given (Err at) = Refused (refused_at (text_refusal_number at.reason) at.place)

abbrev pub text_given : List ℕ → Given
text_given input = text_reading_given (read_record_text (without_newline input))

-- what a command gives for its whole input
abbrev pub given_for : WholeCommand → List ℕ → Given
given_for ShowAltSvc input = altsvc_given input
given_for ShowHttps input = hex_given Text input
given_for ShowHttpsJson input = hex_given Json input
given_for WriteHttps input = text_given input
