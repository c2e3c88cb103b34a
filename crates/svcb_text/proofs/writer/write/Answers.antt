use Rattle.std.proofs.Common.{◌≡◌, arith}
use Rattle.std.proofs.lemmas.Grind.{common_steps}
use Rattle.svcb_text.specs.Written.{record_text}
use Rattle.svcb_text.proofs.WrittenReads.{written_read}
use Rattle.svcb_text.proofs.writer.write.Goals as goal

pub returns-clause-read_back : goal.returns-clause-read_back
returns-clause-read_back c =
    let is : c.from_vec.result ≡ record_text c.args.value.now = grind (arith, common_steps) in
    λ allowed sized short. written_read c.args.value.now c.from_vec.result c.requires is allowed sized short
