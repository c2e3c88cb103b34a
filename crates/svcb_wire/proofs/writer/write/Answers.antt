use Rattle.std.proofs.Common.{◌≡◌, rules}
use Rattle.svcb_wire.specs.Records.{record_octets}
use Rattle.svcb_wire.proofs.RecordSpelled.{written_read}
use Rattle.svcb_wire.proofs.writer.write.Goals as goal

pub returns-clause-read_back : goal.returns-clause-read_back
returns-clause-read_back c =
    let is : c.from_vec.result ≡ record_octets c.args.value.now = search rules in
    λ most. written_read c.args.value.now c.from_vec.result c.requires is most
