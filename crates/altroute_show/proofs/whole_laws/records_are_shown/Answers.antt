use Rattle.altroute_show.proofs.WholeAnswers.{record_shown, record_refused_so, record_only, no_hex_refused}
use Rattle.altroute_show.proofs.whole_laws.records_are_shown.Goals as goal

pub returns-clause-spelled : goal.returns-clause-spelled
returns-clause-spelled c = record_shown

pub returns-clause-refused : goal.returns-clause-refused
returns-clause-refused c = record_refused_so

pub returns-clause-only : goal.returns-clause-only
returns-clause-only c = record_only

pub returns-clause-no_hex : goal.returns-clause-no_hex
returns-clause-no_hex c = no_hex_refused
