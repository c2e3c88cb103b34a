use Rattle.answer_store.proofs.OfKinds.{purged_kinds}
use Rattle.answer_store.proofs.store.AnswerStore.purge.Goals as goal

pub returns-clause-in_force : goal.returns-clause-in_force
returns-clause-in_force c =
    let old = c.args.self.now in
    purged_kinds c.args.now.0 old.v4 c.purge.new.self old.v6 c.purge-2.new.self old.https c.purge-3.new.self c.purge.ensures.in_force c.purge-2.ensures.in_force c.purge-3.ensures.in_force
