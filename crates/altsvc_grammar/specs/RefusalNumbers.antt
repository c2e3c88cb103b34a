-- The numbers of the refusals of Alt-Svc values, as they are written.
use Rattle.std.specs.Prelude.{ℕ}
use Rattle.altsvc_grammar.specs.declared.refusal.AltRefusal.{AltRefusal}
use Rattle.altsvc_grammar.specs.declared.refusal.AltRefusal.TheVariants.{Empty, BadToken, BadPercent, NoEquals, BadQuoted, BadAuthority, BadParameter, Trailing, TooLong}

abbrev pub refusal_number : AltRefusal → ℕ
refusal_number Empty = 1
refusal_number BadToken = 2
refusal_number BadPercent = 3
refusal_number NoEquals = 4
refusal_number BadQuoted = 5
refusal_number BadAuthority = 6
refusal_number BadParameter = 7
refusal_number Trailing = 8
refusal_number TooLong = 9
