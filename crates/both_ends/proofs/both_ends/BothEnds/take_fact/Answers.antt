use Rattle.std.proofs.Common.{refl}
use Rattle.both_ends.proofs.Taking.{took_fact}
use Rattle.both_ends.proofs.both_ends.BothEnds.take_fact.Goals as goal

pub returns-in-Ok-clause-taken : goal.returns-in-Ok-clause-taken
returns-in-Ok-clause-taken c = λ h stands. took_fact c.args.self _ _ h c.args.now.0 c.args.fact stands (c.in-Ok.ensures.taken _ stands.client) refl refl
