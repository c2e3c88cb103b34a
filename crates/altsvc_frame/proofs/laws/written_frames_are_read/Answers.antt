use Rattle.altsvc_frame.proofs.WrittenFrames.{payload_spelled, payload_back}
use Rattle.altsvc_frame.proofs.laws.written_frames_are_read.Goals as goal

pub returns-clause-spelled : goal.returns-clause-spelled
returns-clause-spelled c = λ stream frame valid is short. payload_spelled stream frame valid is short

pub returns-clause-back : goal.returns-clause-back
returns-clause-back c = λ stream frame valid is short. payload_back stream frame valid is short
