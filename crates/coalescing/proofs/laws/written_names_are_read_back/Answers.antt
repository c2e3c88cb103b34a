use Rattle.coalescing.proofs.NamesTexts.{names_written, names_back, names_valid}
use Rattle.coalescing.proofs.laws.written_names_are_read_back.Goals as goal

pub returns-clause-spelled : goal.returns-clause-spelled
returns-clause-spelled c = λ names h. names_written names h

pub returns-clause-back : goal.returns-clause-back
returns-clause-back c = λ names h. names_back names h

pub returns-clause-valid : goal.returns-clause-valid
returns-clause-valid c = λ text names h. names_valid text names h
