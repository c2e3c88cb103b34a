use Rattle.svcb_wire.proofs.RecordSpelled.{record_spelled, record_read}
use Rattle.svcb_wire.proofs.laws.record_reads_back.Goals as goal

pub returns-clause-spelled : goal.returns-clause-spelled
returns-clause-spelled c = λ value h most. record_spelled value h most

pub returns-clause-read : goal.returns-clause-read
returns-clause-read c = λ value h most. record_read value h most
