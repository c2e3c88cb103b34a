use Rattle.answer_store.proofs.OfKinds.{nothing_kept}
use Rattle.answer_store.proofs.store.AnswerStore.network.Goals as goal

pub returns-clause-nothing : goal.returns-clause-nothing
returns-clause-nothing c = nothing_kept c.clear.new.self c.clear-2.new.self c.clear-3.new.self c.clear.ensures.nothing c.clear-2.ensures.nothing c.clear-3.ensures.nothing
