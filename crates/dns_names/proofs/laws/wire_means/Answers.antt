use Rattle.dns_names.proofs.WireNames.{read_says, refusal_says}
use Rattle.dns_names.proofs.WireSpelled.{spelled_reads, refused_reads}
use Rattle.dns_names.proofs.laws.wire_means.Goals as goal

pub returns-clause-ok : goal.returns-clause-ok
returns-clause-ok c = λ p q x name e. read_says p q x name e

pub returns-clause-err : goal.returns-clause-err
returns-clause-err c = λ p q reason x e. refusal_says p q reason x e

pub returns-clause-spelled : goal.returns-clause-spelled
returns-clause-spelled c = λ p q x name s. spelled_reads p q x name s

pub returns-clause-refused : goal.returns-clause-refused
returns-clause-refused c = λ p q reason x s. refused_reads p q reason x s
