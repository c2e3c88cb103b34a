use Rattle.event_lines.proofs.Lines.{line_sound, line_complete}
use Rattle.event_lines.proofs.RefusedLines.{line_says, line_refused}
use Rattle.event_lines.proofs.laws.lines_are_read.Goals as goal

pub returns-clause-read : goal.returns-clause-read
returns-clause-read c = λ line now event h. line_sound line now event h

pub returns-clause-spelled : goal.returns-clause-spelled
returns-clause-spelled c = λ line now event h. line_complete line now event h

pub returns-clause-refusal : goal.returns-clause-refusal
returns-clause-refusal c = λ line place reason h. line_says line place reason h

pub returns-clause-refused : goal.returns-clause-refused
returns-clause-refused c = λ line place reason h. line_refused line place reason h
