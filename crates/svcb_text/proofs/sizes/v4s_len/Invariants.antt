use Rattle.std.proofs.Common.{◌≡◌, ◌≤◌, ◌+◌, min, drop, length}
use Rattle.svcb_wire.specs.Octets.{addresses_octets}
use Rattle.svcb_text.proofs.sizes.v4s_len.Given as goal

-- the octets so far and those from here on are all of them
abbrev pub invariant-loop-address : goal.invariant-loop-address
invariant-loop-address l = record {
  most : l.count ≤ 65536;
  sum : min (l.count + length (addresses_octets (drop l.address-index l.addresses))) 65536 ≡ min (length (addresses_octets l.addresses)) 65536;
}
