use Rattle.conn_states.proofs.Sets.{apart}
use Rattle.conn_states.proofs.origin_set.items.Goals as goal

pub returns-clause-apart : goal.returns-clause-apart
returns-clause-apart c = apart c.args.set.now.keys c.as_slice.ensures.unique
