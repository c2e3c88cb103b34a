use Rattle.field_text.proofs.TokenLemmas.{one_token_of}
use Rattle.field_text.proofs.laws.one_token.Goals as goal

pub returns : goal.returns
returns c = λ p x. one_token_of p x
