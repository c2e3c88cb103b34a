use Rattle.event_lines.proofs.ValidLines.{read_texted}
use Rattle.event_lines.proofs.tests.read.Goals as goal

pub returns : goal.returns
returns c = read_texted c.read_line.result c.read_line.ensures.valid
