use Rattle.field_text.proofs.BlankLemmas.{one_blanks_of}
use Rattle.field_text.proofs.laws.one_blanks.Goals as goal

pub returns : goal.returns
returns c = λ p x. one_blanks_of p x
