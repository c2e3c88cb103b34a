use Rattle.origin_values.proofs.OriginTexts.{origin_written, origin_read_back}
use Rattle.origin_values.proofs.laws.written_origins_are_read_back.Goals as goal

pub returns-clause-spelled : goal.returns-clause-spelled
returns-clause-spelled c = λ origin h. origin_written origin h

pub returns-clause-back : goal.returns-clause-back
returns-clause-back c = λ origin h. origin_read_back origin h
