use Rattle.std.proofs.Common.{length}
use Rattle.svcb_values.proofs.KeySets.{IsSoFar}
use Rattle.svcb_values.proofs.mandatory.read_keys.Given as goal

abbrev pub invariant-loop-name : goal.invariant-loop-name
invariant-loop-name l = IsSoFar l.text l.keys.keys (length l.yielded)
