use Rattle.origin_values.proofs.Hosts.{host_reads, host_read_complete, host_refused}
use Rattle.origin_values.proofs.HostTexts.{host_valid}
use Rattle.origin_values.proofs.laws.hosts_are_read.Goals as goal

pub returns-clause-read : goal.returns-clause-read
returns-clause-read c = λ text host h. host_reads text host h

pub returns-clause-spelled : goal.returns-clause-spelled
returns-clause-spelled c = λ text host h. host_read_complete text host h

pub returns-clause-refused : goal.returns-clause-refused
returns-clause-refused c = λ text place reason h. host_refused text place reason h

pub returns-clause-valid : goal.returns-clause-valid
returns-clause-valid c = λ text host h. host_valid text host h
