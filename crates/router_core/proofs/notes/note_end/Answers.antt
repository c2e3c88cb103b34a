use Rattle.route_choice.specs.Contents.{kept_failures}
use Rattle.router_core.proofs.Noting.{nothing_noted}
use Rattle.router_core.proofs.notes.note_end.Goals as goal

pub returns-in-Direct-clause-failures : goal.returns-in-Direct-clause-failures
returns-in-Direct-clause-failures c = λ o r other. nothing_noted c.args.now.0 c.args.success c.args.attempt.now o r (kept_failures c.args.broken.now o r) c.in-Direct.is other
