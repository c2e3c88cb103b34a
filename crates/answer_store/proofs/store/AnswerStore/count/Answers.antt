use Rattle.std.proofs.Common.{◌+◌, ◌∙◌, min, ap}
use Rattle.answer_store.proofs.Counting.{counted}
use Rattle.answer_store.proofs.store.AnswerStore.count.Goals as goal

pub returns : goal.returns
returns c =
    counted c.args.self.now c.args.now.0 c.count-v4.result c.count-v6.result c.count-https.result c.saturating_add-2.result
    c.count-v4.ensures.unique c.count-v6.ensures.unique c.count-https.ensures.unique
    c.count-v4.ensures.count c.count-v6.ensures.count c.count-https.ensures.count
    (c.saturating_add-2.ensures ∙ ap (λ x. min (x + c.count-https.result) 18446744073709551615) c.saturating_add.ensures)
