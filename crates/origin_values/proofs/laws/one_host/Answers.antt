use Rattle.origin_values.proofs.Hosts.{one_host_of}
use Rattle.origin_values.proofs.laws.one_host.Goals as goal

pub returns : goal.returns
returns c = λ text. one_host_of text
