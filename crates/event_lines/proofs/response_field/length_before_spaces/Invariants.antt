use Rattle.std.proofs.Common.{◌≡◌, ◌≤◌, length, drop}
use Rattle.event_lines.specs.ResponseReading.{without_last_spaces}
use Rattle.event_lines.proofs.FieldParts.{trimmed_length}
use Rattle.event_lines.proofs.response_field.length_before_spaces.Given as goal

abbrev pub invariant-loop-i : goal.invariant-loop-i
invariant-loop-i l = record {
  same : trimmed_length l.length l.i (drop l.i l.text) ≡ length (without_last_spaces l.text);
  within : l.length ≤ l.i;
}
