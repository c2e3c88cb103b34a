use Rattle.dns_names.proofs.WireNames.{name_spelled, name_read}
use Rattle.dns_names.proofs.laws.wire_reads_back.Goals as goal

pub returns-clause-spelled : goal.returns-clause-spelled
returns-clause-spelled c = λ name h. name_spelled name h

pub returns-clause-read : goal.returns-clause-read
returns-clause-read c = λ p name rest h. name_read p name rest h
