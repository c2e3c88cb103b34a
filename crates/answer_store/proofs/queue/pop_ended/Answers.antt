use Rattle.std.proofs.Common.{arith}
use Rattle.dns_names.specs.Names.{name_eq}
use Rattle.answer_store.specs.Names.{name_cmp}
use Rattle.answer_store.proofs.Names.{matches}
use Rattle.answer_store.proofs.Places.{popped, not_after}
use Rattle.answer_store.proofs.queue.pop_ended.Goals as goal

pub returns-clause-others : goal.returns-clause-others
returns-clause-others c = popped name_cmp name_eq matches c.args.queue.now c.pop_first.new.self c.pop_first.result c.pop_first.ensures.updates

pub returns-then-from-first-clause-later : goal.returns-then-from-first-clause-later
returns-then-from-first-clause-later c = λ e k has.
    let after = not_after name_cmp c.in-Some.first.now (e, k) (c.in-Some.ensures.least (e, k) has) in
    omega (arith, c.if-from-first.true, c.from.ensures)
