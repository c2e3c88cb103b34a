use Rattle.svcb_wire.proofs.Writing.{addresses_more}
use Rattle.svcb_wire.proofs.value_writer.write_v6s.Goals as goal

pub loop-address-preserved : goal.loop-address-preserved
loop-address-preserved c =
    addresses_more c.args.addresses.now c.loop-address.address-index _ c.loop-address.octets.items c.extend_from_slice.new.self.items c.loop-address-test.true c.loop-address.invariant c.in_ok-extend_from_slice.ensures.items
