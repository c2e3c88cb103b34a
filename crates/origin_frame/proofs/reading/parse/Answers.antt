use Rattle.origin_frame.proofs.Payloads.{answer_says}
use Rattle.origin_frame.proofs.reading.parse.Goals as goal

pub returns : goal.returns
returns c =
    let says = answer_says c.args.stream c.args.flags c.args.payload.now _ c.read_listed.ensures in
    record { reading = c.read_listed.ensures; ok = says.0; valid = says.1; refused = says.2 }
