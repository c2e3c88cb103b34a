use Rattle.origin_values.proofs.AsciiOrigins.{ascii_spelled, ascii_read, ascii_none, none_ascii}
use Rattle.origin_values.proofs.laws.ascii_origins_are_read.Goals as goal

pub returns-clause-read : goal.returns-clause-read
returns-clause-read c = λ text origin h. ascii_spelled text origin h

pub returns-clause-spelled : goal.returns-clause-spelled
returns-clause-spelled c = λ text origin h. ascii_read text origin h

pub returns-clause-none : goal.returns-clause-none
returns-clause-none c = λ text. (λ h. ascii_none text h, λ h. none_ascii text h)
