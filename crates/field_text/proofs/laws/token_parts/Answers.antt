use Rattle.field_text.specs.TokenGrammar.{is_token}
use Rattle.field_text.proofs.RunLemmas.{longest_run, run_is, after_is}
use Rattle.field_text.proofs.TokenLemmas.{token_taken, token_dropped, token_ends}
use Rattle.field_text.proofs.laws.token_parts.Goals as goal

pub returns-clause-text : goal.returns-clause-text
returns-clause-text c = λ p q x s. run_is is_token x s.token s.rest s.run

pub returns-clause-after : goal.returns-clause-after
returns-clause-after c = λ p q x s. after_is is_token x s.token s.rest s.run

pub returns-clause-dropped : goal.returns-clause-dropped
returns-clause-dropped c = λ p q x s. token_dropped p q x s

pub returns-clause-split : goal.returns-clause-split
returns-clause-split c = λ x. (longest_run is_token x).text

pub returns-clause-taken : goal.returns-clause-taken
returns-clause-taken c = λ p q x s. token_taken p q x s

pub returns-clause-end : goal.returns-clause-end
returns-clause-end c = λ p q x s. token_ends p q x s
