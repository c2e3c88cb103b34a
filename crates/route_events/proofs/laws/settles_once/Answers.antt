use Rattle.route_events.specs.Step.{Begun}
use Rattle.route_events.proofs.Runs.{settled_again, tick_nothing, run_gives}
use Rattle.route_events.proofs.laws.settles_once.Goals as goal

pub returns-clause-again : goal.returns-clause-again
returns-clause-again c = λ es. settled_again _ (run_gives _ es Begun)

pub returns-clause-tick : goal.returns-clause-tick
returns-clause-tick c = λ es. tick_nothing _ (run_gives _ es Begun)
