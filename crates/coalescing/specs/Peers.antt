-- Where connections end: at an address and a port.
use Rattle.std.specs.Prelude.{ℕ, Bool, ◌&&◌, nat_eq, List}
use Rattle.std.specs.List.{list_any}
use Rattle.origin_values.specs.Equality.{addr_eq}
use Rattle.origin_values.specs.declared.address.Addr.{Addr}
use Rattle.coalescing.specs.declared.peer.Peer.{Peer}

abbrev pub peer_of : Addr → ℕ → Peer
peer_of addr port = record { addr = addr; port = port }

-- two peers are one
abbrev pub peer_eq : Peer → Peer → Bool
peer_eq a b = addr_eq a.addr b.addr && nat_eq a.port b.port

-- a peer is one of these
abbrev pub is_among : List Peer → Peer → Bool
is_among peers peer = list_any (λ (p : Peer). peer_eq p peer) peers
