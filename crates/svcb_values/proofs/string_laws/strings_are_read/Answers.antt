use Rattle.svcb_values.proofs.StringLaws.{string_spells, string_refuses, string_refused}
use Rattle.svcb_values.proofs.string_laws.strings_are_read.Goals as goal
use Rattle.svcb_values.proofs.StringSpelled.{string_read}

pub returns-clause-ok : goal.returns-clause-ok
returns-clause-ok c = λ x value count e. string_spells x value count e

pub returns-clause-err : goal.returns-clause-err
returns-clause-err c = λ x q e. string_refuses x q e

pub returns-clause-spelled : goal.returns-clause-spelled
returns-clause-spelled c = λ x value count s. string_read x value count s

pub returns-clause-refused : goal.returns-clause-refused
returns-clause-refused c = λ x q s. string_refused x q s
