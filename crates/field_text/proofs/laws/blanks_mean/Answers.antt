use Rattle.field_text.proofs.BlankLemmas.{blanks_say, blanks_spelled, blanks_dropped}
use Rattle.field_text.specs.BlanksGrammar.{is_blank}
use Rattle.field_text.proofs.RunLemmas.{longest_run}
use Rattle.field_text.proofs.laws.blanks_mean.Goals as goal

pub returns-clause-read : goal.returns-clause-read
returns-clause-read c = λ p x. blanks_say p x

pub returns-clause-spelled : goal.returns-clause-spelled
returns-clause-spelled c = λ p q x s. blanks_spelled p q x s

pub returns-clause-dropped : goal.returns-clause-dropped
returns-clause-dropped c = λ p q x s. blanks_dropped p q x s

pub returns-clause-split : goal.returns-clause-split
returns-clause-split c = λ x. (longest_run is_blank x).text
