use Rattle.altroute_show.proofs.FrameStays.{shown_whole, shown_too_large, shown_unfinished}
use Rattle.altroute_show.proofs.frame_laws.frames_are_shown.Goals as goal

pub returns-clause-whole : goal.returns-clause-whole
returns-clause-whole c = shown_whole

pub returns-clause-too_large : goal.returns-clause-too_large
returns-clause-too_large c = shown_too_large

pub returns-clause-unfinished : goal.returns-clause-unfinished
returns-clause-unfinished c = shown_unfinished
