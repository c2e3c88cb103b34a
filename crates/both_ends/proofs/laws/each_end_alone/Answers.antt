use Rattle.both_ends.proofs.Accepted.{accepted, runs}
use Rattle.both_ends.proofs.laws.each_end_alone.Goals as goal

pub returns-clause-client : goal.returns-clause-client
returns-clause-client c = λ h is. runs is

pub returns-clause-server : goal.returns-clause-server
returns-clause-server c = λ h is. accepted is
