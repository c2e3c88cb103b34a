use Rattle.dns_names.proofs.TextWriting.{parts_more}
use Rattle.dns_names.proofs.text_writer.write_label.Goals as goal

pub loop-byte-preserved : goal.loop-byte-preserved
loop-byte-preserved c = parts_more c.args.label.now c.loop-byte.text.items c.args.text.now.items c.write_byte.new.text.items c.loop-byte.byte-index c.loop-byte-test.true c.loop-byte.invariant c.in_ok-write_byte.ensures
