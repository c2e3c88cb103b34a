use Rattle.std.proofs.Common.{◌≡◌, ◌+◌, length, drop}
use Rattle.event_lines.specs.Parts.{before_space}
use Rattle.event_lines.proofs.line_reader.word_length.Given as goal

abbrev pub invariant-loop-i : goal.invariant-loop-i
invariant-loop-i l = l.i + length (before_space (drop l.i l.text)) ≡ length (before_space l.text)
