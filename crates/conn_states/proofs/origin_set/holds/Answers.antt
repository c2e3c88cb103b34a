use Rattle.std.proofs.Common.{◌∙◌}
use Rattle.conn_states.proofs.Sets.{looked_up}
use Rattle.conn_states.proofs.origin_set.holds.Goals as goal

pub returns : goal.returns
returns c = c.contains.ensures ∙ looked_up c.args.origin.now c.args.set.now.keys
