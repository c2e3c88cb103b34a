use Rattle.route_events.specs.Advertisements.{value_taken}
use Rattle.router_core.proofs.answer.value_taken.Goals as goal

pub returns : goal.returns
unfolding value_taken
returns c = c.read_field.ensures
