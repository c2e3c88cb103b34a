use Rattle.std.proofs.Common.{refl}
use Rattle.request_dispatch.specs.Asked.{asked_by}
use Rattle.request_dispatch.proofs.origin_addresses.OriginAddresses.begin.Goals as goal

pub returns : goal.returns
unfolding asked_by
returns c = refl
