use Rattle.route_events.specs.Step.{Begun}
use Rattle.route_events.proofs.Runs.{all_wait, run_gives}
use Rattle.route_events.proofs.laws.waits_only_for.Goals as goal

pub returns : goal.returns
returns c = λ es. all_wait _ (run_gives _ es Begun)
