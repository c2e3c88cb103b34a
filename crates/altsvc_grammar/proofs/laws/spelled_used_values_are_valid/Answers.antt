use Rattle.altsvc_grammar.proofs.ValidValues.{used_valid}
use Rattle.altsvc_grammar.proofs.laws.spelled_used_values_are_valid.Goals as goal

pub returns : goal.returns
returns c = λ x v s. used_valid x v s
