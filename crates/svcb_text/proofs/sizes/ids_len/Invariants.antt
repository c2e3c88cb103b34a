use Rattle.std.proofs.Common.{◌≡◌, ◌≤◌, ◌+◌, min, drop, length}
use Rattle.svcb_wire.specs.Octets.{ids_octets}
use Rattle.svcb_text.proofs.sizes.ids_len.Given as goal

-- the octets so far and those from here on are all of them
abbrev pub invariant-loop-id : goal.invariant-loop-id
invariant-loop-id l = record {
  most : l.count ≤ 65536;
  sum : min (l.count + length (ids_octets (drop l.id-index l.ids))) 65536 ≡ min (length (ids_octets l.ids)) 65536;
}
