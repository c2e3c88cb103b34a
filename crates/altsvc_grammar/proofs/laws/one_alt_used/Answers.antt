use Rattle.altsvc_grammar.proofs.EveryUsed.{one_used_of}
use Rattle.altsvc_grammar.proofs.laws.one_alt_used.Goals as goal

pub returns : goal.returns
returns c = λ x. one_used_of x
