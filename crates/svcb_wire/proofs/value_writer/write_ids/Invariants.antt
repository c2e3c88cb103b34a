use Rattle.std.proofs.Common.{◌≡◌, take}
use Rattle.svcb_wire.specs.Octets.{ids_octets}
use Rattle.svcb_wire.proofs.value_writer.write_ids.Given as goal

abbrev pub invariant-loop-id : goal.invariant-loop-id
invariant-loop-id l = l.octets.items ≡ ids_octets (take l.id-index l.ids)
