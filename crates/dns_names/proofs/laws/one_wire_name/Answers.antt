use Rattle.dns_names.proofs.WireSpelled.{one_of}
use Rattle.dns_names.proofs.laws.one_wire_name.Goals as goal

pub returns : goal.returns
returns c = λ p x. one_of p x
