use Rattle.svcb_text.proofs.RecordSpelled.{one_of}
use Rattle.svcb_text.proofs.laws.one_record_text.Goals as goal

pub returns : goal.returns
returns c = λ x bytes. one_of x bytes
