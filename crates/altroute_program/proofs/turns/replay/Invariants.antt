use Rattle.std.proofs.Common.{◌-◌, ◌≤◌, length}
use Rattle.altroute_program.specs.Reached.{HasRun}
use Rattle.altroute_program.proofs.turns.replay.Given as goal

abbrev pub invariant-loop-status : goal.invariant-loop-status
invariant-loop-status g l =
    HasRun l.state
    (record { left = g.S.Source.left l.fn.source; source_ended = g.S.Source.ended l.fn.source; read_faults = g.S.Source.faults l.fn.source; written = g.K.Sink.written l.fn.sink; write_faults = g.K.Sink.faults l.fn.sink })
    (record { left = g.S.Source.left l.source; source_ended = g.S.Source.ended l.source; read_faults = g.S.Source.faults l.source; written = g.K.Sink.written l.sink; write_faults = g.K.Sink.faults l.sink })
    × (length l.state.line ≤ 65536)

abbrev pub decreases-loop-status : goal.decreases-loop-status
decreases-loop-status g l = 67108865 - l.state.taken
