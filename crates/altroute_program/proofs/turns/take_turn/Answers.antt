use Rattle.std.proofs.Common.{◌≡◌, [], take, refl, subst, arith}
use Rattle.alt_base.specs.Devices.{Took}
use Rattle.altroute_show.proofs.Told.{answered}
use Rattle.altroute_program.proofs.OneTurn.{finish_ends, piece_runs, piece_ends, read_fault}
use Rattle.altroute_program.proofs.turns.take_turn.Goals as goal

pub returns-then-count-eq0-clause-runs : goal.returns-then-count-eq0-clause-runs
returns-then-count-eq0-clause-runs g c = λ first has.
    let none : take c.in-Ok.count c.read.new.buf ≡ [] = rw c.if-count-eq0.true refl in
    let end = answered (g.S.Source.ended c.args.source.now) (g.S.Source.ended c.read.new.self) c.in-Ok.count 4096 c.if-count-eq0.true (omega arith) c.in-Ok.ensures.ended in
    finish_ends c.finish.result c.args.state.now first _ _ has.0 has.1 has.2 has.3 (c.finish.ensures.ends has.0 has.1 has.2 has.3.reached) c.finish.ensures.cause
    (subst (Took (g.S.Source.left c.args.source.now) (g.S.Source.left c.read.new.self)) none c.in-Ok.ensures.bytes) end (c.in-Ok.ensures.end c.if-count-eq0.true (omega arith)) c.in-Ok.ensures.cause.kept

pub returns-in-Err-clause-runs : goal.returns-in-Err-clause-runs
returns-in-Err-clause-runs g c = λ first has.
    read_fault c.args.state.now first _ _ has.0 has.1 has.2 has.3 c.args.state.now.bounded c.in-Err.ensures.failed refl refl c.in-Err.ensures.cause.failed

pub returns-in-Ok-take_piece-clause-runs : goal.returns-in-Ok-take_piece-clause-runs
returns-in-Ok-take_piece-clause-runs g c = λ first has.
    piece_runs c.args.state.now _ first _ _ has.0 (take c.in-Ok.count c.read.new.buf) has.1 has.2 has.3 (c.in-Ok-take_piece.ensures.ends has.0 has.1 has.2 has.3.reached)
    c.in-Ok.ensures.bytes c.in-Ok.ensures.cause.kept c.in-Ok-take_piece.ensures.cause

pub returns-in-Err-take_piece-clause-runs : goal.returns-in-Err-take_piece-clause-runs
returns-in-Err-take_piece-clause-runs g c = λ first has.
    piece_ends c.in-Err-take_piece.status c.args.state.now _ first _ _ has.0 (take c.in-Ok.count c.read.new.buf) has.1 has.2 has.3 (c.in-Err-take_piece.ensures.ends has.0 has.1 has.2 has.3.reached)
    c.in-Err-take_piece.ensures.cause c.in-Ok.ensures.bytes c.in-Ok.ensures.cause.kept
