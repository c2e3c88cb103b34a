use Rattle.std.proofs.Common.{ap}
use Rattle.std.specs.Map.{lookup}
use Rattle.coalescing.specs.Lists.{items_of}
use Rattle.coalescing.specs.Peers.{peer_of, peer_eq}
use Rattle.coalescing.specs.ByAddress.{connections_at}
use Rattle.coalescing.proofs.address_index.AddressIndex.new.Goals as goal

pub returns : goal.returns
unfolding connections_at
returns c = λ a p. ap (λ es. items_of (lookup (peer_eq (peer_of a p)) es)) c.new.ensures.empty
