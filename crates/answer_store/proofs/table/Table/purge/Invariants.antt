use Rattle.std.proofs.Common.{◌≡◌, ℕ, List}
use Rattle.std.specs.BTreeSet.{btree_set_len}
use Rattle.alias_chain.specs.Held.{in_force}
use Rattle.answer_store.specs.Tables.{at, newest_of}
use Rattle.answer_store.proofs.table.Table.purge.Given as goal

abbrev pub invariant-loop-place : goal.invariant-loop-place
invariant-loop-place g l = record {
  in_force : (q : List (List ℕ)) → in_force l.now.0 (at l.self q) ≡ in_force l.now.0 (at l.fn.self q);
  moment : newest_of l.self ≡ newest_of l.fn.self;
}

abbrev pub decreases-loop-place : goal.decreases-loop-place
decreases-loop-place g l = btree_set_len l.self.queue
