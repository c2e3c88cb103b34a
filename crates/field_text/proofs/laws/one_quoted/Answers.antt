use Rattle.field_text.proofs.QuotedLemmas.{one_quoted_of}
use Rattle.field_text.proofs.laws.one_quoted.Goals as goal

pub returns : goal.returns
returns c = λ p x. one_quoted_of p x
