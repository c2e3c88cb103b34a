use Rattle.origin_values.proofs.Origins.{origin_sound, origin_complete, origin_refused}
use Rattle.origin_values.proofs.OriginTexts.{origin_valid}
use Rattle.origin_values.proofs.laws.origins_are_read.Goals as goal

pub returns-clause-read : goal.returns-clause-read
returns-clause-read c = λ text origin h. origin_sound text origin h

pub returns-clause-spelled : goal.returns-clause-spelled
returns-clause-spelled c = λ text origin h. origin_complete text origin h

pub returns-clause-refused : goal.returns-clause-refused
returns-clause-refused c = λ text place reason h. origin_refused text place reason h

pub returns-clause-valid : goal.returns-clause-valid
returns-clause-valid c = λ text origin h. origin_valid text origin h
