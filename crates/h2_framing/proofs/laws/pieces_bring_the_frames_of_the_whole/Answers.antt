use Rattle.h2_framing.proofs.Pieces.{bring_whole, bring_joined}
use Rattle.h2_framing.proofs.laws.pieces_bring_the_frames_of_the_whole.Goals as goal

pub returns-clause-from_empty : goal.returns-clause-from_empty
returns-clause-from_empty c = bring_whole

pub returns-clause-from_any : goal.returns-clause-from_any
returns-clause-from_any c = λ x pieces frames too_large going all. bring_joined pieces x frames too_large going all
