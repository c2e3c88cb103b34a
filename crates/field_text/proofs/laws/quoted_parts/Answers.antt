use Rattle.field_text.proofs.UnquotedLemmas.{unquoted_is, between_quotes, between_is, after_is, quoted_dropped}
use Rattle.field_text.proofs.laws.quoted_parts.Goals as goal

pub returns-clause-unquoted : goal.returns-clause-unquoted
returns-clause-unquoted c = λ p q x s. unquoted_is p q x s

pub returns-clause-between : goal.returns-clause-between
returns-clause-between c = λ p q x s. between_quotes p q x s

pub returns-clause-alone : goal.returns-clause-alone
returns-clause-alone c = λ p q x s. between_is p q x s

pub returns-clause-after : goal.returns-clause-after
returns-clause-after c = λ p q x s. after_is p q x s

pub returns-clause-dropped : goal.returns-clause-dropped
returns-clause-dropped c = λ p q x s. quoted_dropped p q x s
