use Rattle.altroute_show.proofs.WholeAnswers.{text_written, text_refused_so, text_only, written_shown}
use Rattle.altroute_show.proofs.whole_laws.records_are_written.Goals as goal

pub returns-clause-spelled : goal.returns-clause-spelled
returns-clause-spelled c = text_written

pub returns-clause-refused : goal.returns-clause-refused
returns-clause-refused c = text_refused_so

pub returns-clause-only : goal.returns-clause-only
returns-clause-only c = text_only

pub returns-clause-shown : goal.returns-clause-shown
returns-clause-shown c = written_shown
