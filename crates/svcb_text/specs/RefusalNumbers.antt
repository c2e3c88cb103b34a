-- The numbers of the refusals of records in text, as they are written.
use Rattle.std.specs.Prelude.{ℕ}
use Rattle.svcb_text.specs.declared.refusal.RecordTextRefusal.{RecordTextRefusal}
use Rattle.svcb_text.specs.declared.refusal.RecordTextRefusal.TheVariants.{BadPriority, BadTarget, BadKey, RepeatedKey, BadString, BadValue, Inconsistent, TooLong}

abbrev pub text_refusal_number : RecordTextRefusal → ℕ
text_refusal_number BadPriority = 1
text_refusal_number BadTarget = 2
text_refusal_number BadKey = 3
text_refusal_number RepeatedKey = 4
text_refusal_number BadString = 5
text_refusal_number (BadValue key) = 6
text_refusal_number Inconsistent = 7
text_refusal_number TooLong = 8
