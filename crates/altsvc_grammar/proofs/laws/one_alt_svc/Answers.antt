use Rattle.altsvc_grammar.proofs.EveryValue.{one_answer}
use Rattle.altsvc_grammar.proofs.laws.one_alt_svc.Goals as goal

pub returns : goal.returns
returns c = λ x. one_answer x
