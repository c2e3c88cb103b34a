use Rattle.altsvc_frame.proofs.Frames.{one_frame_of}
use Rattle.altsvc_frame.proofs.laws.one_alt_frame.Goals as goal

pub returns : goal.returns
returns c = λ stream payload. one_frame_of stream payload
