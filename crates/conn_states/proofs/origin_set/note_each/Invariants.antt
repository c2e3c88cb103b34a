use Rattle.std.proofs.Common.{◌≡◌, ◌≤◌, length, take, drop}
use Rattle.conn_states.specs.Origins.{joined}
use Rattle.conn_states.proofs.origin_set.note_each.Given as goal

-- what is left joins as all would have, and what was there stands in front
abbrev pub invariant-loop-origin : goal.invariant-loop-origin
invariant-loop-origin l = record {
  left : joined l.set.keys (drop l.origin-index l.origins) ≡ joined l.fn.set.keys l.origins;
  room : length l.fn.set.keys ≤ length l.set.keys;
  front : take (length l.fn.set.keys) l.set.keys ≡ l.fn.set.keys;
}
