use Rattle.answer_store.proofs.OfKinds.{one_sum}
use Rattle.answer_store.proofs.laws.one_count.Goals as goal

pub returns : goal.returns
returns c = λ store now m n a b. one_sum store now m n a b
