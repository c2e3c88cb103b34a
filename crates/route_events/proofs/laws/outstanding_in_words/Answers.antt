use Rattle.route_events.specs.Step.{run, Begun}
use Rattle.route_events.proofs.OutstandingInWords.{outstanding_stands}
use Rattle.route_events.proofs.Runs.{each, run_gives}
use Rattle.route_events.proofs.laws.outstanding_in_words.Goals as goal

pub returns : goal.returns
returns c = λ es n conn. outstanding_stands (run _ es) n conn (each (run_gives _ es Begun)).sound
