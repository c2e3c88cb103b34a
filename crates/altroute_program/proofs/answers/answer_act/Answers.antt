use Rattle.event_lines.specs.declared.event.Event.TheVariants.{Server}
use Rattle.altroute_program.proofs.Taken.{answers_so}
use Rattle.altroute_program.proofs.answers.answer_act.Goals as goal

pub returns : goal.returns
returns c = answers_so c.answer_taken.result c.take_act.result c.args.ends c.args.number c.args.now.0 (Server c.args.act) c.answer_taken.ensures c.take_act.ensures.taken c.take_act.ensures.refused
