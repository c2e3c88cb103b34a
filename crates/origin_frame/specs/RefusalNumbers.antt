-- The numbers of the refusals of ORIGIN payloads, as they are written.
use Rattle.std.specs.Prelude.{ℕ}
use Rattle.origin_frame.specs.declared.refusal.OriginFrameRefusal.{OriginFrameRefusal}
use Rattle.origin_frame.specs.declared.refusal.OriginFrameRefusal.TheVariants.{NotStreamZero, Flags, EntryPast}

abbrev pub refusal_number : OriginFrameRefusal → ℕ
refusal_number NotStreamZero = 1
refusal_number Flags = 2
refusal_number EntryPast = 3
