use Rattle.coalescing.proofs.NamesLemmas.{names_read, names_spelled, names_refusal, names_refused}
use Rattle.coalescing.proofs.laws.names_are_read.Goals as goal

pub returns-clause-read : goal.returns-clause-read
returns-clause-read c = λ text names h. names_spelled text names h

pub returns-clause-refusal : goal.returns-clause-refusal
returns-clause-refusal c = λ text at h. names_refusal text at h

pub returns-clause-spelled : goal.returns-clause-spelled
returns-clause-spelled c = λ text names h. names_read text names h

pub returns-clause-refused : goal.returns-clause-refused
returns-clause-refused c = λ text place reason h. names_refused text place reason h
