use Rattle.std.proofs.Common.{◌≡◌, take}
use Rattle.svcb_wire.specs.Octets.{addresses_octets}
use Rattle.svcb_wire.proofs.value_writer.write_v4s.Given as goal

abbrev pub invariant-loop-address : goal.invariant-loop-address
invariant-loop-address l = l.octets.items ≡ addresses_octets (take l.address-index l.addresses)
