use Rattle.event_lines.specs.declared.event.Event.TheVariants.{Client}
use Rattle.altroute_program.proofs.Taken.{answers_so}
use Rattle.altroute_program.proofs.answers.answer_fact.Goals as goal

pub returns : goal.returns
returns c = answers_so c.answer_taken.result c.take_fact.result c.args.ends c.args.number c.args.now.0 (Client c.args.fact) c.answer_taken.ensures c.take_fact.ensures.taken c.take_fact.ensures.refused
