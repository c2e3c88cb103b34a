use Rattle.svcb_wire.proofs.Writing.{keys_more}
use Rattle.svcb_wire.proofs.value_writer.write_keys.Goals as goal

pub loop-key-preserved : goal.loop-key-preserved
loop-key-preserved c =
    keys_more c.args.keys.now c.loop-key.key-index 0 c.loop-key.octets.items c.pair_of.result c.extend_from_slice.new.self.items c.loop-key-test.true c.loop-key.invariant c.pair_of.ensures c.in_ok-extend_from_slice.ensures.items
