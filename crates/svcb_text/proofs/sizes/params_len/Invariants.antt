use Rattle.std.proofs.Common.{◌≡◌, ◌≤◌, ◌+◌, min, drop, length}
use Rattle.svcb_wire.specs.Octets.{params_octets}
use Rattle.svcb_text.proofs.sizes.params_len.Given as goal

-- the octets so far and those from here on are all of them
abbrev pub invariant-loop-param : goal.invariant-loop-param
invariant-loop-param l = record {
  most : l.count ≤ 65536;
  sum : min (l.count + length (params_octets (drop l.param-index l.params))) 65536 ≡ min (length (params_octets l.params)) 65536;
}
