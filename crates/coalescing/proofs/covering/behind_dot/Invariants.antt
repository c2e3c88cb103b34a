use Rattle.std.proofs.Common.{◌≡◌, length}
use Rattle.coalescing.specs.Covers.{behind_dot}
use Rattle.coalescing.proofs.covering.behind_dot.Given as goal

abbrev pub invariant-loop-rest : goal.invariant-loop-rest
invariant-loop-rest l = behind_dot l.fn.text l.base ≡ behind_dot l.rest l.base

abbrev pub decreases-loop-rest : goal.decreases-loop-rest
decreases-loop-rest l = length l.rest
