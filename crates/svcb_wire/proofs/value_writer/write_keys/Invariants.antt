use Rattle.std.proofs.Common.{◌≡◌, take}
use Rattle.svcb_wire.specs.Octets.{keys_octets}
use Rattle.svcb_wire.proofs.value_writer.write_keys.Given as goal

abbrev pub invariant-loop-key : goal.invariant-loop-key
invariant-loop-key l = l.octets.items ≡ keys_octets (take l.key-index l.keys)
