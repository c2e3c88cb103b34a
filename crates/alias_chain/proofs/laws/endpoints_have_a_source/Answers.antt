use Rattle.alias_chain.proofs.Listed.{source_of}
use Rattle.alias_chain.proofs.laws.endpoints_have_a_source.Goals as goal

pub returns : goal.returns
returns c = λ answers supported origin all endpoint are among. source_of answers supported origin all endpoint are among
