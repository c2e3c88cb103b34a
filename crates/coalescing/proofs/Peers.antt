-- Peers that are one, and the code's comparison of them.
use Rattle.std.proofs.Common.{◌≡◌, ℕ, true, ◌&&◌, nat_eq, refl, ap}
use Rattle.alt_base.proofs.Numbers.{true_eq}
use Rattle.alt_base.proofs.Booleans.{first_of_both, second_of_both}
use Rattle.alt_base.proofs.Lists.{true_text}
use Rattle.origin_values.specs.Equality.{addr_eq}
use Rattle.origin_values.specs.declared.address.Addr.{Addr}
use Rattle.origin_values.specs.declared.address.Addr.TheVariants.{V4, V6}
use Rattle.origin_values.specs.contracts.address.AddrPartialEq.TheImpl as addresses
use Rattle.coalescing.specs.declared.peer.Peer.{Peer}
use Rattle.coalescing.specs.contracts.peer.PeerPartialEq.TheImpl as derived
use Rattle.coalescing.specs.Peers.{peer_eq}

true_addr : (a b : Addr) → addr_eq a b ≡ true → a ≡ b
true_addr (V4 a) (V4 b) h = ap V4 (true_text a b h)
true_addr (V6 a) (V6 b) h = ap V6 (true_text a b h)
true_addr (V4 a) (V6 b) h = cc
true_addr (V6 a) (V4 b) h = cc

pub true_peer : (p q : Peer) → peer_eq p q ≡ true → p ≡ q
true_peer p q h =
    of_parts p.addr q.addr p.port q.port (true_addr p.addr q.addr (first_of_both (addr_eq p.addr q.addr) (nat_eq p.port q.port) h)) (true_eq p.port q.port (second_of_both (addr_eq p.addr q.addr) (nat_eq p.port q.port) h))
  where
    of_parts : (a b : Addr) (m n : ℕ) → a ≡ b → m ≡ n → (let x : Peer = record { addr = a; port = m } in let y : Peer = record { addr = b; port = n } in x ≡ y)
    of_parts a b m n e f = rw (e, f) refl

same_addr : (a b : Addr) → (addresses.eq-value).it a b ≡ addr_eq a b
same_addr (V4 a) (V4 b) = refl
same_addr (V4 a) (V6 b) = refl
same_addr (V6 a) (V4 b) = refl
same_addr (V6 a) (V6 b) = refl

pub same_peer : (derived.eq-value).it ≡ peer_eq
same_peer = λ i a b. same_addr a.addr b.addr i && nat_eq a.port b.port
