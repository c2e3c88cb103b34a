use Rattle.route_events.specs.declared.action.Action.TheVariants.{SendOn}
use Rattle.route_events.specs.Step.{run, Begun}
use Rattle.route_events.proofs.Runs.{allowed_at, run_gives}
use Rattle.route_events.proofs.laws.sent_only_on.Goals as goal

pub returns : goal.returns
returns c = λ es newer before q conn s u e. allowed_at (run _ es) newer before (SendOn q conn s u) (run_gives _ es Begun) e
