use Rattle.std.proofs.Common.{◌≡◌, ◌+◌, length, drop}
use Rattle.field_text.specs.Runs.{run_of}
use Rattle.event_lines.specs.Parts.{is_space}
use Rattle.event_lines.proofs.response_field.space_length.Given as goal

abbrev pub invariant-loop-i : goal.invariant-loop-i
invariant-loop-i l = l.i + length (run_of is_space (drop l.i l.text)) ≡ length (run_of is_space l.text)
