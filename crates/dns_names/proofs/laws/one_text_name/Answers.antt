use Rattle.dns_names.proofs.TextSpelled.{one_of}
use Rattle.dns_names.proofs.laws.one_text_name.Goals as goal

pub returns : goal.returns
returns c = λ x. one_of x
