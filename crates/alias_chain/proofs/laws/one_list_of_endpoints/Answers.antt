use Rattle.alias_chain.proofs.Listed.{one_list}
use Rattle.alias_chain.proofs.laws.one_list_of_endpoints.Goals as goal

pub returns : goal.returns
returns c = λ answers supported origin all others a b. one_list answers supported origin all others a b
