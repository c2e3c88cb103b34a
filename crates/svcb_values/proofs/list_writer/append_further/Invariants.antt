use Rattle.std.proofs.Common.{◌≡◌, ◌++◌, drop}
use Rattle.svcb_values.specs.Commas.{behind_commas}
use Rattle.svcb_values.proofs.list_writer.append_further.Given as goal

abbrev pub invariant-loop-item : goal.invariant-loop-item
invariant-loop-item l = l.text.items ++ behind_commas (drop l.item-index l.items) ≡ l.fn.text.items ++ behind_commas l.items
