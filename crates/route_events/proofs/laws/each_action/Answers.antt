use Rattle.route_events.specs.Step.{Begun}
use Rattle.route_events.proofs.Runs.{allowed_at, all_wait, settled_again, run_gives}
use Rattle.route_events.proofs.laws.each_action.Goals as goal

pub returns-clause-allowed : goal.returns-clause-allowed
returns-clause-allowed c = λ j newer before a is e. allowed_at j newer before a is e

pub returns-clause-waits : goal.returns-clause-waits
returns-clause-waits c = λ j is. all_wait j is

pub returns-clause-settled : goal.returns-clause-settled
returns-clause-settled c = λ j is. settled_again j is

pub returns-clause-runs : goal.returns-clause-runs
returns-clause-runs c = λ es. run_gives _ es Begun
