use Rattle.alias_chain.specs.Held.{held_at}
use Rattle.answer_store.proofs.OfKinds.{placed_v6}
use Rattle.answer_store.proofs.store.AnswerStore.put_v6.Goals as goal

pub returns-clause-placed : goal.returns-clause-placed
returns-clause-placed c =
    let old = c.args.self.now in
    placed_v6 c.put.new.self old.v4 old.v6 old.https c.args.name (held_at c.args.now.0 c.args.ttl c.args.addrs) c.in_ok-put.ensures.placed
