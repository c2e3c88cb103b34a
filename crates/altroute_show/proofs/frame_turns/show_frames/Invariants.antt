use Rattle.std.proofs.Common.{◌-◌}
use Rattle.altroute_show.specs.FrameSteps.{HaveRun, StandsForSome}
use Rattle.altroute_show.proofs.frame_turns.show_frames.Given as goal

abbrev pub invariant-loop-status : goal.invariant-loop-status
invariant-loop-status g l =
    HaveRun l.state
    (record { left = g.S.Source.left l.fn.source; source_ended = g.S.Source.ended l.fn.source; read_faults = g.S.Source.faults l.fn.source; written = g.K.Sink.written l.fn.sink; write_faults = g.K.Sink.faults l.fn.sink })
    (record { left = g.S.Source.left l.source; source_ended = g.S.Source.ended l.source; read_faults = g.S.Source.faults l.source; written = g.K.Sink.written l.sink; write_faults = g.K.Sink.faults l.sink })
    × StandsForSome l.state

abbrev pub decreases-loop-status : goal.decreases-loop-status
decreases-loop-status g l = 67108865 - l.state.taken
