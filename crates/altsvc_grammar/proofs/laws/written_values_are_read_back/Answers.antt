use Rattle.altsvc_grammar.specs.Written.{value_text}
use Rattle.altsvc_grammar.proofs.Meanings.{value_spelled}
use Rattle.altsvc_grammar.proofs.WrittenValues.{written_spelled}
use Rattle.altsvc_grammar.proofs.laws.written_values_are_read_back.Goals as goal

pub returns-clause-spelled : goal.returns-clause-spelled
returns-clause-spelled c = λ v valid short. written_spelled v valid short

pub returns-clause-back : goal.returns-clause-back
returns-clause-back c = λ v valid short. value_spelled (value_text v) v (written_spelled v valid short)
