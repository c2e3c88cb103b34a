use Rattle.std.proofs.Common.{take}
use Rattle.event_lines.specs.ResponseReading.{field_from, field_of}
use Rattle.event_lines.proofs.FieldNames.{no_colon, with_colon, same_on_ok}
use Rattle.event_lines.proofs.response_field.field_of.Goals as goal

pub returns-in-empty : goal.returns-in-empty
returns-in-empty c = no_colon c.args.text.now c.name_length-count.result c.name_length-count.ensures.value c.name_length-count.ensures.within c.in-empty.len_below

pub returns-in-len1-up : goal.returns-in-len1-up
returns-in-len1-up c =
    same_on_ok c.field_from.result (field_from (take c.name_length-count.result c.args.text.now) c.trimmed.result.now) (field_of c.args.text.now)
    (with_colon c.args.text.now c.name_length-count.result c.name_length-count.ensures.value c.name_length-count.ensures.within c.in-len1-up.len_at_least c.trimmed.result.now c.trimmed.ensures)
    c.field_from.ensures
