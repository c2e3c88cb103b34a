use Rattle.altsvc_grammar.specs.Written.{used_text}
use Rattle.altsvc_grammar.proofs.UsedValues.{used_spelled}
use Rattle.altsvc_grammar.proofs.WrittenUsed.{used_written}
use Rattle.altsvc_grammar.proofs.laws.written_used_values_are_read_back.Goals as goal

pub returns-clause-spelled : goal.returns-clause-spelled
returns-clause-spelled c = λ host port valid some fits. used_written host port valid some fits

pub returns-clause-back : goal.returns-clause-back
returns-clause-back c = λ host port valid some fits. used_spelled (used_text host port) (host, port) (used_written host port valid some fits)
