use Rattle.altsvc_grammar.proofs.EveryUsed.{gives_used, gives_used_refused}
use Rattle.altsvc_grammar.proofs.used.parse_alt_used.Goals as goal

pub returns-clause-ok : goal.returns-clause-ok
returns-clause-ok c = gives_used c.args.input.now c.read_used.result c.read_used.ensures

pub returns-clause-refused : goal.returns-clause-refused
returns-clause-refused c = gives_used_refused c.args.input.now c.read_used.result c.read_used.ensures
