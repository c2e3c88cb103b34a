use Rattle.coalescing.specs.ByAddress.{connections_at}
use Rattle.coalescing.proofs.address_index.AddressIndex.at.Goals as goal

pub returns : goal.returns
unfolding connections_at
returns c = c.numbers_at.ensures
