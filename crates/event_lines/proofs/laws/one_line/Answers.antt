use Rattle.event_lines.proofs.RefusedLines.{one_line_of}
use Rattle.event_lines.proofs.laws.one_line.Goals as goal

pub returns : goal.returns
returns c = λ line. one_line_of line
