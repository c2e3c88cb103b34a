use Rattle.std.proofs.Common.{ℕ, rules}
use Rattle.std.proofs.lemmas.List.Sorted.{answers_always}
use Rattle.alias_chain.specs.declared.ranked.Ranked.{Ranked}
use Rattle.alias_chain.proofs.Order.{sorts}
use Rattle.alias_chain.proofs.ranked.sort.Goals as goal

abbrev priority_of : Ranked → ℕ
priority_of r = r.priority

pub returns : goal.returns
returns c =
    sorts priority_of _ _
    (c.in_ok-sort_by_key.ensures.sorted priority_of (answers_always _ _ _ (λ f a r g h. search rules)))
    (c.sort_by_key.ensures.stable priority_of (answers_always _ _ _ (λ f a r g h. search rules)))
