use Rattle.svcb_values.proofs.ValueLaws.{value_spells, value_read, value_of_key, value_has_form}
use Rattle.svcb_values.proofs.value_laws.values_are_read.Goals as goal

pub returns-clause-read : goal.returns-clause-read
returns-clause-read c = λ key value param small bytes h. value_spells key value param small bytes h

pub returns-clause-spelled : goal.returns-clause-spelled
returns-clause-spelled c = λ key value param h. value_read key value param h

pub returns-clause-of_key : goal.returns-clause-of_key
returns-clause-of_key c = λ key value param h. value_of_key key value param h

pub returns-clause-form : goal.returns-clause-form
returns-clause-form c = λ key value param small bytes h. value_has_form key value param small bytes h
