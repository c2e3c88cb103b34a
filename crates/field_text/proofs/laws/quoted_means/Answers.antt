use Rattle.std.proofs.Common.{subst}
use Rattle.field_text.proofs.QuotedLemmas.{QuotedSays, quoted_says, quoted_spelled, quoted_refused}
use Rattle.field_text.proofs.laws.quoted_means.Goals as goal

pub returns-clause-ok : goal.returns-clause-ok
returns-clause-ok c = λ p q x e. subst (QuotedSays p x) e (quoted_says p x)

pub returns-clause-err : goal.returns-clause-err
returns-clause-err c = λ p at x e. subst (QuotedSays p x) e (quoted_says p x)

pub returns-clause-spelled : goal.returns-clause-spelled
returns-clause-spelled c = λ p q x s. quoted_spelled p q x s

pub returns-clause-refused : goal.returns-clause-refused
returns-clause-refused c = λ p q r x s. quoted_refused p q r x s
