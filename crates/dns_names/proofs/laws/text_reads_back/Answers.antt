use Rattle.dns_names.proofs.TextNames.{name_spelled, name_read}
use Rattle.dns_names.proofs.laws.text_reads_back.Goals as goal

pub returns-clause-spelled : goal.returns-clause-spelled
returns-clause-spelled c = λ name h. name_spelled name h

pub returns-clause-read : goal.returns-clause-read
returns-clause-read c = λ name h. name_read name h
