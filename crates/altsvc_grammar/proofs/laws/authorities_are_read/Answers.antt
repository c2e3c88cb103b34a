use Rattle.altsvc_grammar.proofs.Authorities.{authority_read, authority_spelled}
use Rattle.altsvc_grammar.proofs.laws.authorities_are_read.Goals as goal

pub returns-clause-read : goal.returns-clause-read
returns-clause-read c = λ text host port h. authority_spelled text host port h

pub returns-clause-spelled : goal.returns-clause-spelled
returns-clause-spelled c = λ text host port s. authority_read text host port s
