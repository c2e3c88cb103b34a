use Rattle.std.proofs.Common.{◌<◌, ◌+◌, length, arith, sym, ◌∙◌, subst}
use Rattle.std.proofs.lemmas.List.{nil_from_length}
use Rattle.both_ends.specs.declared.both_ends.BothEnds.{BothEnds}
use Rattle.both_ends.specs.StandsFor.{StandsFor}
use Rattle.altroute_show.specs.declared.status.Status.{Status}
use Rattle.altroute_program.specs.Reached.{FinishEnds}
use Rattle.altroute_program.proofs.Lines.{finish_empty, finish_any, seen_line}
use Rattle.altroute_program.proofs.replay.finish.Goals as goal

pub returns-then-len-eq0-clause-ends : goal.returns-then-len-eq0-clause-ends
returns-then-len-eq0-clause-ends g c = λ bytes text j reached.
    finish_empty c.args.replay.now bytes text j _ reached c.args.replay.now.bounded (nil_from_length _ (sym c.len.ensures ∙ c.if-len-eq0.true))

pub returns-clause-ends : goal.returns-clause-ends
returns-clause-ends g c = λ bytes text j reached.
    let stands = subst (λ (ends : BothEnds). StandsFor ends j) (sym c.replace-ends.ensures.value) reached.stands in
    let more : 0 < length c.args.replay.now.line = omega (arith, c.len.ensures, c.if-len-eq0.false) in
    subst (λ (s : Status). FinishEnds s (g.K.Sink.written c.args.sink.now) (g.K.Sink.written c.act_on_line.new.sink) bytes text) (sym c.status_after.ensures)
    (finish_any c.act_on_line.result c.args.replay.now bytes text j (g.K.Sink.written c.args.sink.now) (g.K.Sink.written c.act_on_line.new.sink) reached c.args.replay.now.bounded more (seen_line c.act_on_line.result (g.K.Sink.written c.args.sink.now) (g.K.Sink.written c.act_on_line.new.sink) text j (c.args.replay.now.lines + 1) c.as_slice.result.now c.args.replay.now.line c.as_slice.ensures (c.act_on_line.ensures.ends text j stands)))
