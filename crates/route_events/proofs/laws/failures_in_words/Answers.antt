use Rattle.route_events.proofs.FailuresInWords.{are_failures}
use Rattle.route_events.proofs.laws.failures_in_words.Goals as goal

pub returns : goal.returns
returns c = λ j o r. are_failures j o r
