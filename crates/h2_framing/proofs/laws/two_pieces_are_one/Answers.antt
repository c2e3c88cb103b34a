use Rattle.h2_framing.proofs.Pieces.{two_answers, brings_stays}
use Rattle.h2_framing.proofs.laws.two_pieces_are_one.Goals as goal

pub returns-clause-going : goal.returns-clause-going
returns-clause-going c = two_answers

pub returns-clause-too_large : goal.returns-clause-too_large
returns-clause-too_large c = λ frames n x p q a. brings_stays x p q frames n a
