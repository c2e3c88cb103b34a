use Rattle.std.proofs.Common.{◌≡◌, [], take, refl, subst, arith}
use Rattle.alt_base.specs.Devices.{Took}
use Rattle.altroute_show.proofs.Told.{answered}
use Rattle.altroute_show.proofs.FrameRuns.{end_runs, piece_goes, piece_stops, read_fails}
use Rattle.altroute_show.proofs.frame_turns.take_turn.Goals as goal

pub returns-then-count-eq0-clause-runs : goal.returns-then-count-eq0-clause-runs
returns-then-count-eq0-clause-runs g c = λ first has.
    let none : take c.in-Ok.count c.read.new.buf ≡ [] = rw c.if-count-eq0.true refl in
    let end = answered (g.S.Source.ended c.args.source.now) (g.S.Source.ended c.read.new.self) c.in-Ok.count 4096 c.if-count-eq0.true (omega arith) c.in-Ok.ensures.ended in
    end_runs c.end_octets.result c.args.state.now first _ _ has.0 has.1 (c.end_octets.ensures.ends has.0 has.1.stands) c.end_octets.ensures.cause
    (subst (Took (g.S.Source.left c.args.source.now) (g.S.Source.left c.read.new.self)) none c.in-Ok.ensures.bytes) end (c.in-Ok.ensures.end c.if-count-eq0.true (omega arith)) c.in-Ok.ensures.cause.kept

pub returns-in-Err-clause-runs : goal.returns-in-Err-clause-runs
returns-in-Err-clause-runs g c = λ first has.
    read_fails c.args.state.now first _ _ has.0 has.1 c.args.state.now.bounded c.in-Err.ensures.failed refl refl c.in-Err.ensures.cause.failed

pub returns-in-Ok-take_octets-clause-runs : goal.returns-in-Ok-take_octets-clause-runs
returns-in-Ok-take_octets-clause-runs g c = λ first has.
    piece_goes c.args.state.now _ first _ _ has.0 (take c.in-Ok.count c.read.new.buf) has.1 (c.in-Ok-take_octets.ensures.ends has.0 has.1.stands)
    c.in-Ok.ensures.bytes c.in-Ok.ensures.cause.kept c.in-Ok-take_octets.ensures.cause

pub returns-in-Err-take_octets-clause-runs : goal.returns-in-Err-take_octets-clause-runs
returns-in-Err-take_octets-clause-runs g c = λ first has.
    piece_stops c.in-Err-take_octets.status c.args.state.now _ first _ _ has.0 (take c.in-Ok.count c.read.new.buf) has.1 (c.in-Err-take_octets.ensures.ends has.0 has.1.stands)
    c.in-Err-take_octets.ensures.cause c.in-Ok.ensures.bytes c.in-Ok.ensures.cause.kept
