use Rattle.svcb_text.proofs.RecordSays.{record_spells, record_refuses}
use Rattle.svcb_text.proofs.RecordSpelled.{record_spelled, record_refused}
use Rattle.svcb_text.proofs.laws.record_texts_are_read.Goals as goal

pub returns-clause-ok : goal.returns-clause-ok
returns-clause-ok c = λ x value bytes e. record_spells x value bytes e

pub returns-clause-err : goal.returns-clause-err
returns-clause-err c = λ x q reason bytes e. record_refuses x q reason bytes e

pub returns-clause-spelled : goal.returns-clause-spelled
returns-clause-spelled c = λ x value s. record_spelled x value s

pub returns-clause-refused : goal.returns-clause-refused
returns-clause-refused c = λ x q reason bytes s. record_refused x q reason bytes s
