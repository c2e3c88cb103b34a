use Rattle.svcb_wire.proofs.Bytes.{bytes_of}
use Rattle.svcb_text.proofs.RecordSays.{spelled_by, refused_by}
use Rattle.svcb_text.proofs.SpelledRecords.{record_by}
use Rattle.svcb_text.proofs.reader.parse.Goals as goal

pub returns-clause-spelled : goal.returns-clause-spelled
returns-clause-spelled c = spelled_by c.read.result c.args.text.now (bytes_of c.args.text.now c.type_inv.text) c.read.ensures

pub returns-clause-refused : goal.returns-clause-refused
returns-clause-refused c = refused_by c.read.result c.args.text.now (bytes_of c.args.text.now c.type_inv.text) c.read.ensures

pub returns-clause-is_record : goal.returns-clause-is_record
returns-clause-is_record c = record_by c.read.result c.args.text.now (bytes_of c.args.text.now c.type_inv.text) c.read.ensures
