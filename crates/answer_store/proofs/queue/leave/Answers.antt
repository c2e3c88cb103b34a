use Rattle.std.proofs.Common.{◌∙◌}
use Rattle.std.specs.BTreeSet.{contains}
use Rattle.dns_names.specs.Names.{name_eq}
use Rattle.answer_store.specs.Names.{name_cmp}
use Rattle.answer_store.specs.Queue.{place_cmp}
use Rattle.answer_store.proofs.Places.{left}
use Rattle.answer_store.proofs.queue.leave.Goals as goal

pub returns-clause-queue : goal.returns-clause-queue
returns-clause-queue g c = λ e k.
    let old = contains (place_cmp name_cmp) c.args.queue.now (e, k) in
    rw c.in-Some.is (rw (← c.end_of-ended.ensures) (c.take_out.ensures.queue e k ∙ left c.end_of-ended.result c.args.end e (name_eq c.args.name k) old c.if-ended-end.false))
