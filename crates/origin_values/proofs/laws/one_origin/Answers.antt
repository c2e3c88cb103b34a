use Rattle.origin_values.proofs.Origins.{one_origin_of}
use Rattle.origin_values.proofs.laws.one_origin.Goals as goal

pub returns : goal.returns
returns c = λ text. one_origin_of text
