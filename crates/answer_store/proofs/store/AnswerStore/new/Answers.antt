use Rattle.answer_store.proofs.OfKinds.{nothing_kept}
use Rattle.answer_store.proofs.store.AnswerStore.new.Goals as goal

pub returns-clause-nothing : goal.returns-clause-nothing
returns-clause-nothing c = nothing_kept c.new.result c.new-2.result c.new-3.result c.new.ensures.nothing c.new-2.ensures.nothing c.new-3.ensures.nothing
