use Rattle.std.proofs.Common.{◌≡◌, ◌++◌, drop}
use Rattle.coalescing.specs.NamesWritten.{further_text}
use Rattle.coalescing.proofs.written.append_further.Given as goal

abbrev pub invariant-loop-name : goal.invariant-loop-name
invariant-loop-name l = l.text.items ++ further_text (drop l.name-index l.names) ≡ l.fn.text.items ++ further_text l.names
