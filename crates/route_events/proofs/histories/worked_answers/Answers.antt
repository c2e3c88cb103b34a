use Rattle.std.proofs.Common.{refl}
use Rattle.percent_encoding.specs.Percent.{percent_decode}
use Rattle.alias_chain.specs.Following.{follow, endpoints_by}
use Rattle.route_events.specs.Advertisements.{value_taken}
use Rattle.route_events.proofs.histories.worked_answers.Goals as goal

pub returns-clause-alias_ : goal.returns-clause-alias_
unfolding endpoints_by follow
returns-clause-alias_ c = refl

pub returns-clause-port : goal.returns-clause-port
unfolding endpoints_by follow
returns-clause-port c = refl

pub returns-clause-malformed : goal.returns-clause-malformed
unfolding endpoints_by follow
returns-clause-malformed c = refl

pub returns-clause-in_time : goal.returns-clause-in_time
unfolding endpoints_by follow
returns-clause-in_time c = refl

pub returns-clause-too_late : goal.returns-clause-too_late
unfolding endpoints_by follow
returns-clause-too_late c = refl

pub returns-clause-moved_on : goal.returns-clause-moved_on
unfolding endpoints_by follow
returns-clause-moved_on c = refl

pub returns-clause-replaced : goal.returns-clause-replaced
unfolding endpoints_by follow
returns-clause-replaced c = refl

pub returns-clause-used : goal.returns-clause-used
unfolding endpoints_by follow
returns-clause-used c = refl

pub returns-clause-failed : goal.returns-clause-failed
unfolding endpoints_by follow
returns-clause-failed c = refl

pub returns-clause-order : goal.returns-clause-order
unfolding endpoints_by follow value_taken percent_decode
returns-clause-order c = refl
