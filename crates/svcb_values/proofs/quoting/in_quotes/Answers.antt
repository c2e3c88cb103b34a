use Rattle.svcb_values.proofs.QuotingLoop.{parts_more}
use Rattle.svcb_values.proofs.quoting.in_quotes.Goals as goal

pub loop-byte-preserved : goal.loop-byte-preserved
loop-byte-preserved c = parts_more c.args.bytes.now c.loop-byte.text.items c.write_byte.new.text.items c.loop-byte.byte-index c.loop-byte-test.true c.loop-byte.invariant c.in_ok-write_byte.ensures
