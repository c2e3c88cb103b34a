use Rattle.altsvc_grammar.proofs.UsedValues.{used_spelled, used_refusals}
use Rattle.altsvc_grammar.proofs.EveryUsed.{used_read_spelled, used_read_refused}
use Rattle.altsvc_grammar.proofs.laws.used_values_are_read.Goals as goal

pub returns-clause-ok : goal.returns-clause-ok
returns-clause-ok c = λ x used h. used_read_spelled x used h

pub returns-clause-err : goal.returns-clause-err
returns-clause-err c = λ x at h. used_read_refused x at h

pub returns-clause-spelled : goal.returns-clause-spelled
returns-clause-spelled c = λ x used s. used_spelled x used s

pub returns-clause-refused : goal.returns-clause-refused
returns-clause-refused c = λ x q r h. used_refusals x q r h
