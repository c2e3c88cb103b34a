use Rattle.route_events.proofs.Lists.{in_from_any}
use Rattle.both_ends.proofs.Deliveries.{live_by_delivery}
use Rattle.both_ends.proofs.laws.live_by_a_delivery.Goals as goal

pub returns : goal.returns
returns c = λ h older o a now at message conn is taken live_now. live_by_delivery older o a now at message conn c.messages_are_read.ensures.advertised is taken (in_from_any a _ live_now)
