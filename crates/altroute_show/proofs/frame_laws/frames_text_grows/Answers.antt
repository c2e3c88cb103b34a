use Rattle.altroute_show.proofs.FrameStays.{text_grows}
use Rattle.altroute_show.proofs.frame_laws.frames_text_grows.Goals as goal

pub returns : goal.returns
returns c = text_grows
