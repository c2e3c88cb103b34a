use Rattle.std.proofs.Common.{arith}
use Rattle.network_cache.proofs.Order.{popped, not_after}
use Rattle.network_cache.proofs.queue.pop_ended.Goals as goal

pub returns-clause-others : goal.returns-clause-others
returns-clause-others c = popped c.args.queue.now c.pop_first.new.self c.pop_first.result c.pop_first.ensures.updates

pub returns-then-from-first-clause-later : goal.returns-then-from-first-clause-later
returns-then-from-first-clause-later c = λ e o has.
    let after = not_after c.in-Some.first.now (e, o) (c.in-Some.ensures.least (e, o) has) in
    omega (arith, c.if-from-first.true, c.from.ensures)
