use Rattle.std.proofs.Common.{sym, ap, ◌∙◌}
use Rattle.origin_frame.specs.Entries.{entry_of}
use Rattle.origin_frame.proofs.Steps.{one_more, past_end, rest_whole}
use Rattle.origin_frame.proofs.reading.read_entries.Goals as goal

pub returns-in-None : goal.returns-in-None
returns-in-None c = past_end c.args.payload.now c.loop-place.listed c.loop-place.place c.loop-place.invariant c.loop-place-test.true (sym (ap entry_of (rest_whole c.args.payload.now c.loop-place.place)) ∙ sym c.in-None.ensures)

pub loop-place-preserved : goal.loop-place-preserved
loop-place-preserved c = rw c.in_ok-add_entry.ensures (one_more c.args.payload.now c.in-Some.entry.now c.loop-place.listed c.loop-place.place c.loop-place.invariant (sym (ap entry_of (rest_whole c.args.payload.now c.loop-place.place)) ∙ sym c.in-Some.ensures))
