use Rattle.svcb_values.proofs.ListWriting.{id_more}
use Rattle.svcb_values.proofs.list_writer.id_text.Goals as goal

pub loop-byte-preserved : goal.loop-byte-preserved
loop-byte-preserved c = id_more c.args.id.now c.loop-byte.byte-index 0 c.loop-byte.text.items c.append_id_byte.new.text.items c.loop-byte-test.true c.loop-byte.invariant c.in_ok-append_id_byte.ensures
