use Rattle.std.proofs.Common.{◌-◌, length}
use Rattle.svcb_values.proofs.StringLoop.{StringRead}
use Rattle.svcb_values.proofs.strings.read_styled.Given as goal

abbrev pub invariant-loop-bytes : goal.invariant-loop-bytes
invariant-loop-bytes g l = StringRead l.text l.style l.bytes l.plain l.place

abbrev pub decreases-loop-bytes : goal.decreases-loop-bytes
decreases-loop-bytes g l = length l.text - l.place
