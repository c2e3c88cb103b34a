use Rattle.event_lines.proofs.WrittenLines.{line_written, line_back}
use Rattle.event_lines.proofs.laws.written_events_are_read_back.Goals as goal

pub returns-clause-spelled : goal.returns-clause-spelled
returns-clause-spelled c = line_written

pub returns-clause-back : goal.returns-clause-back
returns-clause-back c = line_back
