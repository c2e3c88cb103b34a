use Rattle.std.proofs.Common.{ap}
use Rattle.altroute_program.specs.Outcome.{text_of}
use Rattle.altroute_program.proofs.replay.act_on_line.Goals as goal

pub returns-in-Ok-clause-ends : goal.returns-in-Ok-clause-ends
returns-in-Ok-clause-ends g c = λ text j stands.
    let a = (rw c.in-Ok-Goes.field-0-is at c.in-Ok-Goes.ensures) text j stands in
    (c.in-Ok-Goes.text.items, a.0, a.1, a.2, rw c.deref.ensures.value at c.in-Ok.ensures.ok)

pub returns-in-Ok-Goes-clause-ends : goal.returns-in-Ok-Goes-clause-ends
returns-in-Ok-Goes-clause-ends g c = λ text j stands.
    let a = (rw c.in-Ok-Goes.field-0-is at c.in-Ok-Goes.ensures) text j stands in
    let failed = rw c.deref.ensures.value at c.in-Err-write_all.ensures.failed in
    (c.in-Ok-Goes.text.items, failed.0, ap text_of a.1, failed.2)
