-- The numbers of the refusals of records, as they are written.
use Rattle.std.specs.Prelude.{ℕ}
use Rattle.svcb_wire.specs.declared.refusal.WireRefusal.{WireRefusal}
use Rattle.svcb_wire.specs.declared.refusal.WireRefusal.TheVariants.{Short, BadTarget, KeyOrder, ParamPast, BadValue, TooLong}

abbrev pub refusal_number : WireRefusal → ℕ
refusal_number Short = 1
refusal_number BadTarget = 2
refusal_number KeyOrder = 3
refusal_number ParamPast = 4
refusal_number (BadValue key) = 5
refusal_number TooLong = 6
