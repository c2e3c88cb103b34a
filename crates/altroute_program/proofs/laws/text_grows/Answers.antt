use Rattle.altroute_program.proofs.Stays.{grows}
use Rattle.altroute_program.proofs.laws.text_grows.Goals as goal

pub returns : goal.returns
returns c = λ bytes more ended. grows bytes more ended
