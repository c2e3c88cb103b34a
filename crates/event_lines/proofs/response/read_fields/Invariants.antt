use Rattle.std.proofs.Common.{◌≡◌, ◌+◌, ◌<◌, ◌^◌, length}
use Rattle.event_lines.specs.ResponseReading.{field_texts, fields_reading}
use Rattle.event_lines.proofs.FieldSteps.{read_on}
use Rattle.event_lines.proofs.response.read_fields.Given as goal

abbrev pub invariant-loop-count : goal.invariant-loop-count
invariant-loop-count l = record {
  same : read_on l.reply l._count l.place (field_texts l.rest) ≡ fields_reading l.begin l.text;
  small : l.place + length l.rest < 2 ^ 32;
}
