use Rattle.dns_names.proofs.TextWriting.{dots_more}
use Rattle.dns_names.proofs.text_writer.write_labels.Goals as goal

pub loop-label-preserved : goal.loop-label-preserved
loop-label-preserved c =
    dots_more c.args.labels.now c.loop-label.label-index c.label-item.result c.as_slice.result.now c.loop-label.text.items c.write_label.new.text.items c.push-in-loop-label.new.self.items c.loop-label-test.true c.label-item.is c.as_slice.ensures c.loop-label.invariant c.in_ok-write_label.ensures c.in_ok-push-2.ensures.items
