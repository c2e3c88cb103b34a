use Rattle.std.proofs.Common.{refl}
use Rattle.alias_chain.specs.Following.{follow, endpoints_by}
use Rattle.route_events.proofs.histories.worked_histories.Goals as goal

pub returns-clause-two_requests : goal.returns-clause-two_requests
unfolding endpoints_by follow
returns-clause-two_requests c = refl

pub returns-clause-closed_connection : goal.returns-clause-closed_connection
unfolding endpoints_by follow
returns-clause-closed_connection c = refl

pub returns-clause-busy_connection : goal.returns-clause-busy_connection
unfolding endpoints_by follow
returns-clause-busy_connection c = refl

pub returns-clause-failed_attempt : goal.returns-clause-failed_attempt
unfolding endpoints_by follow
returns-clause-failed_attempt c = refl

pub returns-clause-wrong_name : goal.returns-clause-wrong_name
unfolding endpoints_by follow
returns-clause-wrong_name c = refl

pub returns-clause-two_schemes : goal.returns-clause-two_schemes
unfolding endpoints_by follow
returns-clause-two_schemes c = refl

pub returns-clause-misdirected : goal.returns-clause-misdirected
unfolding endpoints_by follow
returns-clause-misdirected c = refl
