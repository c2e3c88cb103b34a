use Rattle.std.proofs.Common.{refl, []}
use Rattle.altroute_show.specs.Seen.{Seen}
use Rattle.altroute_show.proofs.FrameComplete.{frames_complete}
use Rattle.altroute_show.proofs.FrameRuns.{begins_frames}
use Rattle.altroute_show.proofs.frame_turns.show_frames.Goals as goal

pub loop-status-init : goal.loop-status-init
loop-status-init g c = (begins_frames _ _ (record { reader = c.new.ensures; taken = refl }), ([], record { reader = c.new.ensures; taken = refl }))

pub returns-in-Some-clause-complete : goal.returns-in-Some-clause-complete
returns-in-Some-clause-complete g c =
    let old : Seen = record { left = g.S.Source.left c.args.source.now; source_ended = g.S.Source.ended c.args.source.now; read_faults = g.S.Source.faults c.args.source.now; written = g.K.Sink.written c.args.sink.now; write_faults = g.K.Sink.faults c.args.sink.now } in
    let new : Seen = record { left = g.S.Source.left c.take_turn.new.source; source_ended = g.S.Source.ended c.take_turn.new.source; read_faults = g.S.Source.faults c.take_turn.new.source; written = g.K.Sink.written c.take_turn.new.sink; write_faults = g.K.Sink.faults c.take_turn.new.sink } in
    frames_complete c.in-Some.status old new (c.in-Some.ensures.runs old c.loop-status.invariant.0)
