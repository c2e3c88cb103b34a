use Rattle.std.proofs.Common.{refl, sym, subst, Ok, Err, ◌+◌}
use Rattle.both_ends.specs.declared.both_ends.BothEnds.{BothEnds}
use Rattle.both_ends.specs.StandsFor.{StandsFor}
use Rattle.altroute_program.proofs.Lines.{newline_ok, newline_error, seen_line}
use Rattle.altroute_program.proofs.replay.end_line.Goals as goal

pub returns-in-Ok-clause-ends : goal.returns-in-Ok-clause-ends
returns-in-Ok-clause-ends g c = λ bytes text j reached.
    let stands = subst (λ (ends : BothEnds). StandsFor ends j) (sym c.replace-ends.ensures.value) reached.stands in
    newline_ok c.args.replay.now _ bytes text j (g.K.Sink.written c.args.sink.now) (g.K.Sink.written c.act_on_line.new.sink) reached (seen_line (Ok c.in-Ok.next) (g.K.Sink.written c.args.sink.now) (g.K.Sink.written c.act_on_line.new.sink) text j (c.args.replay.now.lines + 1) c.as_slice.result.now c.args.replay.now.line c.as_slice.ensures (c.in-Ok.ensures.ends text j stands)) c.clear.ensures refl refl

pub returns-in-Err-clause-ends : goal.returns-in-Err-clause-ends
returns-in-Err-clause-ends g c = λ bytes text j reached.
    let stands = subst (λ (ends : BothEnds). StandsFor ends j) (sym c.replace-ends.ensures.value) reached.stands in
    newline_error c.in-Err.status c.args.replay.now _ bytes text j (g.K.Sink.written c.args.sink.now) (g.K.Sink.written c.act_on_line.new.sink) reached c.requires.room (seen_line (Err c.in-Err.status) (g.K.Sink.written c.args.sink.now) (g.K.Sink.written c.act_on_line.new.sink) text j (c.args.replay.now.lines + 1) c.as_slice.result.now c.args.replay.now.line c.as_slice.ensures (c.in-Err.ensures.ends text j stands))
