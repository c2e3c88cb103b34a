use Rattle.altroute_program.proofs.Stays.{stays}
use Rattle.altroute_program.proofs.laws.stop_stays.Goals as goal

pub returns : goal.returns
returns c = λ bytes more text ended why stop. stays bytes more text ended why stop
