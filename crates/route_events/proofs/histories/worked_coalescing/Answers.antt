use Rattle.std.proofs.Common.{refl}
use Rattle.std.specs.Fmt.{digits}
use Rattle.percent_encoding.specs.Percent.{percent_decode}
use Rattle.alias_chain.specs.Following.{follow, endpoints_by}
use Rattle.route_events.specs.Advertisements.{value_taken}
use Rattle.route_events.proofs.histories.worked_coalescing.Goals as goal

pub returns-clause-coalesced : goal.returns-clause-coalesced
unfolding endpoints_by follow
returns-clause-coalesced c = refl

pub returns-clause-port : goal.returns-clause-port
unfolding endpoints_by follow digits
returns-clause-port c = refl

pub returns-clause-address : goal.returns-clause-address
unfolding endpoints_by follow
returns-clause-address c = refl

pub returns-clause-certificate : goal.returns-clause-certificate
unfolding endpoints_by follow
returns-clause-certificate c = refl

pub returns-clause-protocol : goal.returns-clause-protocol
unfolding endpoints_by follow
returns-clause-protocol c = refl

pub returns-clause-by_address : goal.returns-clause-by_address
unfolding endpoints_by follow
returns-clause-by_address c = refl

pub returns-clause-by_address6 : goal.returns-clause-by_address6
unfolding endpoints_by follow
returns-clause-by_address6 c = refl

pub returns-clause-counts : goal.returns-clause-counts
unfolding endpoints_by follow value_taken percent_decode
returns-clause-counts c = refl
