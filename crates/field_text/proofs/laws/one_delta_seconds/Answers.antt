use Rattle.field_text.proofs.DeltaLemmas.{one_delta_of}
use Rattle.field_text.proofs.laws.one_delta_seconds.Goals as goal

pub returns : goal.returns
returns c = λ x. one_delta_of x
