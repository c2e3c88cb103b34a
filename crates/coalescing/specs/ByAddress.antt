-- What an index of addresses holds: at each address and port the numbers of connections, in the order of their insertion.
-- These are all that the contracts say of it.
use Rattle.std.specs.Prelude.{ℕ, Bool, not, nat_eq, List}
use Rattle.origin_values.specs.declared.address.Addr.{Addr}
use Rattle.coalescing.specs.declared.address_index.AddressIndex.{AddressIndex}
use Rattle.coalescing.specs.Lists.{list_at}
use Rattle.coalescing.specs.Peers.{peer_of, peer_eq}

-- the numbers at an address and a port
unfoldable pub connections_at : AddressIndex → Addr → ℕ → List ℕ
connections_at index addr port = list_at peer_eq index.numbers (peer_of addr port)

-- a number is another than that of a connection
abbrev pub is_other : ℕ → ℕ → Bool
is_other conn number = not (nat_eq number conn)
