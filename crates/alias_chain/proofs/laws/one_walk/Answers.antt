use Rattle.alias_chain.proofs.Walks.{one_name, one_targets}
use Rattle.alias_chain.proofs.laws.one_walk.Goals as goal

pub returns-clause-name : goal.returns-clause-name
returns-clause-name c = λ answers origin v w vs ws h k. one_name answers origin v w vs ws h k

pub returns-clause-targets : goal.returns-clause-targets
returns-clause-targets c = λ answers origin v w vs ws h k. one_targets answers origin v w vs ws h k
