use Rattle.dns_names.proofs.Bytes.{bytes_of}
use Rattle.svcb_wire.proofs.RecordSays.{spelled_by, record_by, refused_by}
use Rattle.svcb_wire.proofs.reader.parse.Goals as goal

pub returns-clause-spelled : goal.returns-clause-spelled
returns-clause-spelled c = spelled_by c.read.result c.args.rdata.now (bytes_of c.args.rdata.now c.type_inv.rdata) c.read.ensures

pub returns-clause-refused : goal.returns-clause-refused
returns-clause-refused c = refused_by c.read.result c.args.rdata.now (bytes_of c.args.rdata.now c.type_inv.rdata) c.read.ensures

pub returns-clause-is_record : goal.returns-clause-is_record
returns-clause-is_record c = record_by c.read.result c.args.rdata.now (bytes_of c.args.rdata.now c.type_inv.rdata) c.read.ensures
