use Rattle.std.proofs.Common.{◌≡◌, length}
use Rattle.svcb_values.specs.ValueReading.{ids_behind, read_ids}
use Rattle.svcb_values.proofs.ids.read_ids.Given as goal

abbrev pub invariant-loop-rest : goal.invariant-loop-rest
invariant-loop-rest l = ids_behind l.ids l.id l.rest ≡ read_ids l.text

abbrev pub decreases-loop-rest : goal.decreases-loop-rest
decreases-loop-rest l = length l.rest
