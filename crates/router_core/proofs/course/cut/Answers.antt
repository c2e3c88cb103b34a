use Rattle.std.proofs.Common.{arith}
use Rattle.router_core.proofs.Bounds.{cut_small}
use Rattle.router_core.proofs.course.cut.Goals as goal

pub settle-requires-clause-sends : goal.settle-requires-clause-sends
settle-requires-clause-sends c =
    let small = cut_small c.args.course.state c.args.conn c.args.size in
    rw c.in_ok-cut_off.ensures (omega (arith, small.sends, small.waiting, c.requires.sends))
