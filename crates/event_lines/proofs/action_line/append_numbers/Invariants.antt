use Rattle.std.proofs.Common.{◌≡◌, ◌++◌, drop}
use Rattle.event_lines.specs.ActionTexts.{numbers_text}
use Rattle.event_lines.proofs.action_line.append_numbers.Given as goal

abbrev pub invariant-loop-number : goal.invariant-loop-number
invariant-loop-number l = l.line.items ++ numbers_text (drop l.number-index l.numbers) ≡ l.fn.line.items ++ numbers_text l.numbers
