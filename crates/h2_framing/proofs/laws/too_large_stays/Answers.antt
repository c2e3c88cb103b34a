use Rattle.h2_framing.proofs.Pieces.{brings_nothing}
use Rattle.h2_framing.proofs.laws.too_large_stays.Goals as goal

pub returns : goal.returns
returns c = brings_nothing
