use Rattle.std.proofs.Common.{subst}
use Rattle.field_text.proofs.TokenLemmas.{TokenSays, token_says, token_spelled}
use Rattle.field_text.proofs.laws.token_means.Goals as goal

pub returns-clause-ok : goal.returns-clause-ok
returns-clause-ok c = λ p q x e. subst (TokenSays p x) e (token_says p x)

pub returns-clause-spelled : goal.returns-clause-spelled
returns-clause-spelled c = λ p q x s. token_spelled p q x s
