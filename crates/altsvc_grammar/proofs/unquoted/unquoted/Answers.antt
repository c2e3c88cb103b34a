use Rattle.altsvc_grammar.proofs.Slices.{unquoted_slice}
use Rattle.altsvc_grammar.proofs.unquoted.unquoted.Goals as goal

pub returns : goal.returns
returns c = rw (unquoted_slice c.args.place c.args.end c.args.input.now c.requires.quoted) at c.unquoted_body.ensures
