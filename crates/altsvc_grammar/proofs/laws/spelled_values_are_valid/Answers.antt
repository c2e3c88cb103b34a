use Rattle.altsvc_grammar.proofs.ValidValues.{value_valid}
use Rattle.altsvc_grammar.proofs.laws.spelled_values_are_valid.Goals as goal

pub returns : goal.returns
returns c = λ x v s. value_valid x v s
