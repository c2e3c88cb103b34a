use Rattle.alias_chain.proofs.Listed.{endpoints_are}
use Rattle.alias_chain.proofs.laws.endpoints_exist.Goals as goal

pub returns : goal.returns
returns c = λ answers supported origin. endpoints_are answers supported origin
