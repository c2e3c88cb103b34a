use Rattle.std.proofs.Common.{◌≡◌, ◌+◌, length, drop}
use Rattle.field_text.specs.Runs.{run_of}
use Rattle.event_lines.specs.ResponseReading.{is_before_colon}
use Rattle.event_lines.proofs.response_field.name_length.Given as goal

abbrev pub invariant-loop-i : goal.invariant-loop-i
invariant-loop-i l = l.i + length (run_of is_before_colon (drop l.i l.text)) ≡ length (run_of is_before_colon l.text)
