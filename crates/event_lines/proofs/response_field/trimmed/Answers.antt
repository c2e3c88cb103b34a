use Rattle.event_lines.proofs.FieldParts.{trimmed_by}
use Rattle.event_lines.proofs.response_field.trimmed.Goals as goal

pub returns : goal.returns
returns c = trimmed_by c.args.text.now c.space_length.result c.length_before_spaces.result c.space_length.ensures.value c.space_length.ensures.within c.length_before_spaces.ensures.value
