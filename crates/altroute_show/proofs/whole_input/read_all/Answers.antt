use Rattle.std.proofs.Common.{List, ℕ, subst, sym}
use Rattle.altroute_show.specs.WholeInput.{SourceSeen, TakenAll, ReadEnds, ended_with}
use Rattle.altroute_show.proofs.whole_input.read_all.Goals as goal

pub returns-in-Ok : goal.returns-in-Ok
returns-in-Ok g c =
    let old : SourceSeen = record { left = g.S.Source.left c.args.source.now; ended = g.S.Source.ended c.args.source.now; faults = g.S.Source.faults c.args.source.now } in
    let new : SourceSeen = record { left = g.S.Source.left c.read_more.new.source; ended = g.S.Source.ended c.read_more.new.source; faults = g.S.Source.faults c.read_more.new.source } in
    subst (λ (xs : List ℕ). TakenAll old new xs) (sym c.from_vec.ensures) (subst (λ e. ReadEnds (ended_with e c.read_more.new.input.items) old new) c.in-Ok.is (c.in-Some.ensures.turn old c.loop-end.invariant.0))

pub returns-in-Err : goal.returns-in-Err
returns-in-Err g c =
    let old : SourceSeen = record { left = g.S.Source.left c.args.source.now; ended = g.S.Source.ended c.args.source.now; faults = g.S.Source.faults c.args.source.now } in
    let new : SourceSeen = record { left = g.S.Source.left c.read_more.new.source; ended = g.S.Source.ended c.read_more.new.source; faults = g.S.Source.faults c.read_more.new.source } in
    subst (λ e. ReadEnds (ended_with e c.read_more.new.input.items) old new) c.in-Err.is (c.in-Some.ensures.turn old c.loop-end.invariant.0)

pub loop-end-preserved : goal.loop-end-preserved
loop-end-preserved g c = (c.in_default.ensures.turn _ c.loop-end.invariant.0, c.in_default.ensures.fits)
