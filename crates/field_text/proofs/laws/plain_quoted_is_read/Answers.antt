use Rattle.field_text.proofs.UnquotedLemmas.{plain_read, plain_unquoted, plain_after}
use Rattle.field_text.proofs.laws.plain_quoted_is_read.Goals as goal

pub returns-clause-read : goal.returns-clause-read
returns-clause-read c = λ p text rest valid. plain_read p text rest valid

pub returns-clause-unquoted : goal.returns-clause-unquoted
returns-clause-unquoted c = λ text rest valid. plain_unquoted text rest valid

pub returns-clause-after : goal.returns-clause-after
returns-clause-after c = λ text rest valid. plain_after text rest valid
