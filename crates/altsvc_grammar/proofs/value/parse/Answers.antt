use Rattle.altsvc_grammar.proofs.EveryValue.{gives_spelled, gives_refused}
use Rattle.altsvc_grammar.proofs.value.parse.Goals as goal

pub returns-clause-ok : goal.returns-clause-ok
returns-clause-ok c = gives_spelled c.args.input.now c.read_value.result c.read_value.ensures

pub returns-clause-refused : goal.returns-clause-refused
returns-clause-refused c = gives_refused c.args.input.now c.read_value.result c.read_value.ensures
