use Rattle.h2_framing.proofs.Splitting.{written_frame, written_front}
use Rattle.h2_framing.proofs.laws.written_frame_is_read.Goals as goal

pub returns-clause-frame : goal.returns-clause-frame
returns-clause-frame c = written_frame

pub returns-clause-front : goal.returns-clause-front
returns-clause-front c = written_front
