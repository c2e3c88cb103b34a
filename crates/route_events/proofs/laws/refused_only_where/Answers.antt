use Rattle.route_events.specs.declared.action.Action.TheVariants.{Refuse}
use Rattle.route_events.specs.Step.{run, Begun}
use Rattle.route_events.proofs.Runs.{allowed_at, run_gives}
use Rattle.route_events.proofs.laws.refused_only_where.Goals as goal

pub returns : goal.returns
returns c = λ es newer before q e. allowed_at (run _ es) newer before (Refuse q) (run_gives _ es Begun) e
