use Rattle.altroute_show.proofs.FrameStays.{stop_stays}
use Rattle.altroute_show.proofs.frame_laws.frames_stop_stays.Goals as goal

pub returns : goal.returns
returns c = stop_stays
