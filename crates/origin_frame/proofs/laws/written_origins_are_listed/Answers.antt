use Rattle.origin_frame.proofs.PayloadTexts.{payload_spelled, payload_back}
use Rattle.origin_frame.proofs.laws.written_origins_are_listed.Goals as goal

pub returns-clause-spelled : goal.returns-clause-spelled
returns-clause-spelled c = λ origins h. payload_spelled origins h

pub returns-clause-back : goal.returns-clause-back
returns-clause-back c = λ origins h. payload_back origins h
