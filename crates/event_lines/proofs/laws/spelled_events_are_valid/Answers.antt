use Rattle.event_lines.proofs.ValidLines.{line_valid}
use Rattle.event_lines.proofs.laws.spelled_events_are_valid.Goals as goal

pub returns : goal.returns
returns c = line_valid
