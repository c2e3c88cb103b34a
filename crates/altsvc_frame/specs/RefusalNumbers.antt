-- The numbers of the refusals of ALTSVC payloads, as they are written.
use Rattle.std.specs.Prelude.{ℕ}
use Rattle.altsvc_frame.specs.declared.refusal.AltFrameRefusal.{AltFrameRefusal}
use Rattle.altsvc_frame.specs.declared.refusal.AltFrameRefusal.TheVariants.{Short, OriginPast, EmptyOnZero, OriginOnStream, BadOrigin, BadField}

abbrev pub refusal_number : AltFrameRefusal → ℕ
refusal_number Short = 1
refusal_number OriginPast = 2
refusal_number EmptyOnZero = 3
refusal_number OriginOnStream = 4
refusal_number BadOrigin = 5
refusal_number BadField = 6
