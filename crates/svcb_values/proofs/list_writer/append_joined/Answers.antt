use Rattle.svcb_values.proofs.ListWriting.{joined_answer}
use Rattle.svcb_values.proofs.list_writer.append_joined.Goals as goal

pub returns-in_ok-extend_from_slice-in-len1-up : goal.returns-in_ok-extend_from_slice-in-len1-up
returns-in_ok-extend_from_slice-in-len1-up c =
    joined_answer c.append_further.result c.args.items.now c.first-item.result c.as_slice.result.now c.args.text.now.items c.extend_from_slice.new.self.items c.append_further.new.text.items c.in-len1-up.len_at_least c.first-item.is c.as_slice.ensures c.in_ok-extend_from_slice-in-len1-up.ensures.items c.append_further.ensures
