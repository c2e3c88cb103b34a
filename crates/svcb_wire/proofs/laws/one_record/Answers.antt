use Rattle.svcb_wire.proofs.RecordSpelled.{one_of}
use Rattle.svcb_wire.proofs.laws.one_record.Goals as goal

pub returns : goal.returns
returns c = λ x bytes. one_of x bytes
