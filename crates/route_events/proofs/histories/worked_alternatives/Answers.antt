use Rattle.std.proofs.Common.{refl}
use Rattle.percent_encoding.specs.Percent.{percent_decode}
use Rattle.route_events.specs.Advertisements.{value_taken}
use Rattle.alias_chain.specs.Following.{follow, endpoints_by}
use Rattle.route_events.proofs.histories.worked_alternatives.Goals as goal

pub returns-clause-used : goal.returns-clause-used
unfolding endpoints_by follow value_taken percent_decode
returns-clause-used c = refl

pub returns-clause-stale : goal.returns-clause-stale
unfolding endpoints_by follow value_taken percent_decode
returns-clause-stale c = refl

pub returns-clause-cleared : goal.returns-clause-cleared
unfolding endpoints_by follow value_taken percent_decode
returns-clause-cleared c = refl

pub returns-clause-network : goal.returns-clause-network
unfolding endpoints_by follow value_taken percent_decode
returns-clause-network c = refl

pub returns-clause-failed : goal.returns-clause-failed
unfolding endpoints_by follow value_taken percent_decode
returns-clause-failed c = refl

pub returns-clause-misdirected : goal.returns-clause-misdirected
unfolding endpoints_by follow value_taken percent_decode
returns-clause-misdirected c = refl

pub returns-clause-no_value : goal.returns-clause-no_value
unfolding endpoints_by follow value_taken percent_decode
returns-clause-no_value c = refl

pub returns-clause-plain : goal.returns-clause-plain
unfolding endpoints_by follow value_taken percent_decode
returns-clause-plain c = refl
