use Rattle.dns_names.proofs.TextNames.{spelled_name}
use Rattle.dns_names.proofs.laws.text_names.Goals as goal

pub returns : goal.returns
returns c = λ x name s. spelled_name x name s
