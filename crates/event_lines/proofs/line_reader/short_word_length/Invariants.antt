use Rattle.std.proofs.Common.{◌≡◌, ◌+◌, length, drop}
use Rattle.field_text.specs.Runs.{run_of}
use Rattle.event_lines.specs.ResponseGrammar.{is_word_byte}
use Rattle.event_lines.proofs.line_reader.short_word_length.Given as goal

abbrev pub invariant-loop-i : goal.invariant-loop-i
invariant-loop-i l = l.i + length (run_of is_word_byte (drop l.i l.text)) ≡ length (run_of is_word_byte l.text)
