use Rattle.route_events.proofs.Candidates.{no_candidate}
use Rattle.route_events.proofs.laws.only_candidates.Goals as goal

pub returns : goal.returns
returns c = λ r o reach none. no_candidate r o reach none
