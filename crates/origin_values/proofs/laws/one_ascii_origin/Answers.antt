use Rattle.origin_values.proofs.AsciiTexts.{one_ascii, ascii_spelled}
use Rattle.origin_values.proofs.laws.one_ascii_origin.Goals as goal

pub returns-clause-one : goal.returns-clause-one
returns-clause-one c = λ text a b h k. one_ascii text a b h k

pub returns-clause-spelled : goal.returns-clause-spelled
returns-clause-spelled c = λ text origin h. ascii_spelled text origin h
