use Rattle.origin_values.specs.Written.{host_text}
use Rattle.origin_values.proofs.Hosts.{host_read_complete}
use Rattle.origin_values.proofs.HostTexts.{host_written}
use Rattle.origin_values.proofs.laws.written_hosts_are_read_back.Goals as goal

pub returns-clause-spelled : goal.returns-clause-spelled
returns-clause-spelled c = λ host h. host_written host h

pub returns-clause-back : goal.returns-clause-back
returns-clause-back c = λ host h. host_read_complete (host_text host) host (host_written host h)
