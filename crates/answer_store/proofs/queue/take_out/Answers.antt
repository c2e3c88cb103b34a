use Rattle.std.proofs.Common.{ap, cond, false, ◌∙◌}
use Rattle.std.specs.BTreeSet.{contains}
use Rattle.dns_names.specs.Names.{name_eq}
use Rattle.answer_store.specs.Names.{name_cmp}
use Rattle.answer_store.specs.Queue.{place_cmp, is_place}
use Rattle.answer_store.proofs.Names.{matches}
use Rattle.answer_store.proofs.Places.{without}
use Rattle.answer_store.proofs.queue.take_out.Goals as goal

pub returns-clause-queue : goal.returns-clause-queue
returns-clause-queue c = λ e n.
    let old = contains (place_cmp name_cmp) c.args.queue.now (e, n) in
    without name_cmp name_eq matches c.args.queue.now c.remove.new.self (c.args.end, c.new.result) c.remove.ensures.updates e n
    ∙ ap (λ x. cond (is_place name_eq (c.args.end, x) (e, n)) false old) c.new.ensures
