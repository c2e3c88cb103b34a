use Rattle.std.proofs.Common.{◌-◌, arith}
use Rattle.altroute_show.proofs.FrameAnswers.{passes, long_ends, stopped_ends}
use Rattle.altroute_show.proofs.frame_steps.take_octets.Goals as goal

pub returns-in-Ok-clause-ends : goal.returns-in-Ok-clause-ends
returns-in-Ok-clause-ends g c = λ before stands.
    let p = passes before c.args.piece.now (67108864 - c.args.state.now.taken) (omega (arith, stands.taken, c.args.state.now.bounded)) (omega arith) in
    long_ends _ before c.args.piece.now (67108864 - c.args.state.now.taken) _ _ p (c.in-Ok.ensures.ends before stands)

pub returns-in-Err-clause-ends : goal.returns-in-Err-clause-ends
returns-in-Err-clause-ends g c = λ before stands.
    let p = passes before c.args.piece.now (67108864 - c.args.state.now.taken) (omega (arith, stands.taken, c.args.state.now.bounded)) (omega arith) in
    stopped_ends c.in-Err.status _ before c.args.piece.now (67108864 - c.args.state.now.taken) _ _ p (c.in-Err.ensures.ends before stands)
