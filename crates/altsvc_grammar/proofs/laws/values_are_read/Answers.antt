use Rattle.altsvc_grammar.proofs.Meanings.{value_spelled}
use Rattle.altsvc_grammar.proofs.RefusedValues.{value_refused}
use Rattle.altsvc_grammar.proofs.EveryValue.{read_spelled, read_refused}
use Rattle.altsvc_grammar.proofs.laws.values_are_read.Goals as goal

pub returns-clause-spelled : goal.returns-clause-spelled
returns-clause-spelled c = λ x v s. value_spelled x v s

pub returns-clause-refused : goal.returns-clause-refused
returns-clause-refused c = λ x q r h. value_refused x q r h

pub returns-clause-ok : goal.returns-clause-ok
returns-clause-ok c = λ x v h. read_spelled x v h

pub returns-clause-err : goal.returns-clause-err
returns-clause-err c = λ x at h. read_refused x at h
