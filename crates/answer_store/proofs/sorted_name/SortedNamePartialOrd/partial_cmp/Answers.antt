use Rattle.std.proofs.Common.{Some, ap, sym, ◌∙◌}
use Rattle.answer_store.proofs.Names.{orders_agree}
use Rattle.answer_store.proofs.sorted_name.SortedNamePartialOrd.partial_cmp.Goals as goal

pub returns : goal.returns
returns c = ap Some c.cmp.ensures ∙ sym (orders_agree c.args.self.now c.args.other.now)
