use Rattle.std.proofs.Common.{subst}
use Rattle.field_text.proofs.DeltaLemmas.{DeltaSays, delta_says, delta_spelled, delta_refused}
use Rattle.field_text.proofs.laws.delta_seconds_means.Goals as goal

pub returns-clause-some : goal.returns-clause-some
returns-clause-some c = λ n x e. subst (DeltaSays x) e (delta_says x)

pub returns-clause-none : goal.returns-clause-none
returns-clause-none c = λ x e. subst (DeltaSays x) e (delta_says x)

pub returns-clause-spelled : goal.returns-clause-spelled
returns-clause-spelled c = λ n x s. delta_spelled n x s

pub returns-clause-refused : goal.returns-clause-refused
returns-clause-refused c = λ x s. delta_refused x s
