use Rattle.std.proofs.Common.{◌-◌, ◌≤◌, length}
use Rattle.altroute_show.specs.WholeInput.{Taken}
use Rattle.altroute_show.proofs.whole_input.read_all.Given as goal

abbrev pub invariant-loop-end : goal.invariant-loop-end
invariant-loop-end g l =
    Taken
    (record { left = g.S.Source.left l.fn.source; ended = g.S.Source.ended l.fn.source; faults = g.S.Source.faults l.fn.source })
    (record { left = g.S.Source.left l.source; ended = g.S.Source.ended l.source; faults = g.S.Source.faults l.source })
    l.input.items
    × (length l.input.items ≤ 67108864)

abbrev pub decreases-loop-end : goal.decreases-loop-end
decreases-loop-end g l = 67108865 - length l.input.items
