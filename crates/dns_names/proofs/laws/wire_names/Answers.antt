use Rattle.dns_names.proofs.WireNames.{spelled_name}
use Rattle.dns_names.proofs.laws.wire_names.Goals as goal

pub returns : goal.returns
returns c = λ octets name bytes s. spelled_name octets name bytes s
