use Rattle.std.proofs.Common.{ap, sym, ◌∙◌, length, arith}
use Rattle.request_dispatch.specs.Looks.{Look, look_of}
use Rattle.request_dispatch.specs.StepStates.{settle_over}
use Rattle.request_dispatch.proofs.Bounds.{settled_opened, settled_sends}
use Rattle.request_dispatch.proofs.settling.settle.Goals as goal

pub settle_one-requires-clause-opened : goal.settle_one-requires-clause-opened
settle_one-requires-clause-opened c =
    let rest = ap length c.in-Some.ensures.steps.0 in
    omega (arith, rest, c.loop-request.invariant.1, c.requires.opened)

pub settle_one-requires-clause-sends : goal.settle_one-requires-clause-sends
settle_one-requires-clause-sends c =
    let rest = ap length c.in-Some.ensures.steps.0 in
    omega (arith, rest, c.loop-request.invariant.2, c.requires.sends)

pub loop-request-preserved : goal.loop-request-preserved
loop-request-preserved c =
    let look : Look = look_of c.args.cache.now c.args.broken.now c.args.answers.now c.args.now.0 in
    let rest = ap length c.in-Some.ensures.steps.0 in
    let more = settled_opened look c.loop-request.state c.in-Some.request in
    let sends = settled_sends look c.loop-request.state c.in-Some.request in
    rw c.in_ok-settle_one.ensures (
      ap (settle_over look c.loop-request.state) (sym c.in-Some.ensures.steps.0) ∙ c.loop-request.invariant.0,
      omega (arith, rest, more, c.loop-request.invariant.1),
      omega (arith, rest, sends, c.loop-request.invariant.2),
    )
