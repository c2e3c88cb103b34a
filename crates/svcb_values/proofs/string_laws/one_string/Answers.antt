use Rattle.svcb_values.proofs.StringLaws.{one_of}
use Rattle.svcb_values.proofs.string_laws.one_string.Goals as goal

pub returns : goal.returns
returns c = λ x. one_of x
