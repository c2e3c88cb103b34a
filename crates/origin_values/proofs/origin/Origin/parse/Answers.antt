use Rattle.origin_values.proofs.AsciiTexts.{parse_says}
use Rattle.origin_values.proofs.origin.Origin.parse.Goals as goal

pub returns-clause-ok : goal.returns-clause-ok
returns-clause-ok c = (parse_says c.args.text.now c.read_origin.result c.read_origin.ensures).ok

pub returns-clause-valid : goal.returns-clause-valid
returns-clause-valid c = (parse_says c.args.text.now c.read_origin.result c.read_origin.ensures).valid

pub returns-clause-refused : goal.returns-clause-refused
returns-clause-refused c = (parse_says c.args.text.now c.read_origin.result c.read_origin.ensures).at_place
