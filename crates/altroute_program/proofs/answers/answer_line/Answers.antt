use Rattle.std.proofs.Common.{subst}
use Rattle.event_lines.specs.Valid.{IsEvent, IsShort}
use Rattle.event_lines.specs.declared.event.Event.{Event}
use Rattle.altroute_program.proofs.FitLines.{line_fits}
use Rattle.altroute_program.proofs.answers.answer_line.Goals as goal

pub answer_fact-requires : goal.answer_fact-requires
answer_fact-requires c =
    line_fits c.in-Ok-default-Client.now.0 c.in-Ok-default-Client.fact
    (subst (λ (e : Event). IsEvent c.in-Ok-default-Client.now.0 e) c.in-Ok-default-Client.field-0-1-is c.in-Ok-default-Client.ensures.valid)
    (subst (λ (e : Event). IsShort e) c.in-Ok-default-Client.field-0-1-is c.in-Ok-default-Client.ensures.short)
