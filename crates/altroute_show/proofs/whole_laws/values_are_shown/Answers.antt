use Rattle.altroute_show.proofs.WholeAnswers.{value_shown, value_refused_so, value_only}
use Rattle.altroute_show.proofs.whole_laws.values_are_shown.Goals as goal

pub returns-clause-spelled : goal.returns-clause-spelled
returns-clause-spelled c = value_shown

pub returns-clause-refused : goal.returns-clause-refused
returns-clause-refused c = value_refused_so

pub returns-clause-only : goal.returns-clause-only
returns-clause-only c = value_only
