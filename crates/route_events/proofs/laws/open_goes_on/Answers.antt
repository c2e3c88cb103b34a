use Rattle.route_events.proofs.GoingOn as octets
use Rattle.route_events.proofs.laws.open_goes_on.Goals as goal

pub returns : goal.returns
returns c = λ j is. octets.open_goes_on j is
