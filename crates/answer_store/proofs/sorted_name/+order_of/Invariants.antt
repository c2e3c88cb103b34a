use Rattle.std.proofs.Common.{length}
use Rattle.answer_store.proofs.sorted_name.+order_of.Given as goal

abbrev pub decreases-order_of : goal.decreases-order_of
decreases-order_of l = length l.labels.now
