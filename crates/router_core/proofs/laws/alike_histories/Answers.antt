use Rattle.router_core.proofs.Forgetting.{forgets}
use Rattle.router_core.proofs.laws.alike_histories.Goals as goal

pub returns : goal.returns
returns c = λ router j k stands alike run. forgets router j k stands alike run
