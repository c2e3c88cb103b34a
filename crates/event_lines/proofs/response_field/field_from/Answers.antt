use Rattle.std.proofs.Common.{sym, ◌∙◌}
use Rattle.event_lines.proofs.FieldNames.{name_found, name_missed, field_made, field_unnamed}
use Rattle.event_lines.proofs.response_field.field_from.Goals as goal

pub returns-in-Ok : goal.returns-in-Ok
returns-in-Ok c =
    field_made c.args.name.now c.in-Ok.name c.args.value.now (name_found c.args.name.now λ k. let e = c.in-Ok.ensures.invalid.1 k in cc) (sym c.if-not-is_value.false ∙ c.is_value.ensures) c.in-Ok.ensures.ok

pub returns-in-Err-Invalid : goal.returns-in-Err-Invalid
returns-in-Err-Invalid c = field_unnamed c.args.name.now c.args.value.now (name_missed c.args.name.now (c.in-Err-Invalid.ensures.invalid.0 (cc c.in-Err-Invalid.field-0-is)))
