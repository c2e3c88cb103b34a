use Rattle.svcb_wire.proofs.RecordSays.{spelled_record}
use Rattle.svcb_wire.proofs.laws.spelled_records.Goals as goal

pub returns : goal.returns
returns c = λ x value bytes s. spelled_record x value bytes s
