-- The text of a record is read back.
use Rattle.std.proofs.Common.{◌≡◌, ℕ, ◌≤◌, List, length, Ok, subst, sym}
use Rattle.svcb_wire.specs.declared.svcb.Svcb.{Svcb}
use Rattle.svcb_wire.specs.Records.{IsRecord, record_octets}
use Rattle.svcb_text.specs.TextGrammar.{IsAllowed}
use Rattle.svcb_text.specs.TextReading.{read_record_text}
use Rattle.svcb_text.specs.Written.{record_text}
use Rattle.svcb_text.proofs.RecordSpelled.{record_spelled}
use Rattle.svcb_text.proofs.WrittenLaws.{written_spells}

pub text_read : (value : Svcb) → IsRecord value → IsAllowed value → length (record_octets value) ≤ 65535 → length (record_text value) ≤ 65535 → read_record_text (record_text value) ≡ Ok value
text_read value is allowed sized short = record_spelled (record_text value) value (written_spells value is allowed sized short)

pub written_read : (value : Svcb) (text : List ℕ) → IsRecord value → text ≡ record_text value → IsAllowed value → length (record_octets value) ≤ 65535 → length text ≤ 65535 → read_record_text text ≡ Ok value
written_read value text is wrote allowed sized short =
    subst (λ x. read_record_text x ≡ Ok value) (sym wrote) (text_read value is allowed sized (subst (λ x. length x ≤ 65535) wrote short))
