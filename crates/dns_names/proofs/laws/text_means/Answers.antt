use Rattle.dns_names.proofs.TextNames.{read_says, refusal_says}
use Rattle.dns_names.proofs.TextSpelled.{spelled_reads, refused_reads}
use Rattle.dns_names.proofs.laws.text_means.Goals as goal

pub returns-clause-ok : goal.returns-clause-ok
returns-clause-ok c = λ x name e. read_says x name e

pub returns-clause-err : goal.returns-clause-err
returns-clause-err c = λ q reason x e. refusal_says x q reason e

pub returns-clause-spelled : goal.returns-clause-spelled
returns-clause-spelled c = λ x name s. spelled_reads x name s

pub returns-clause-refused : goal.returns-clause-refused
returns-clause-refused c = λ q reason x s. refused_reads x q reason s
