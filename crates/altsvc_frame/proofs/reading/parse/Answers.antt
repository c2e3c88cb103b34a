use Rattle.altsvc_frame.proofs.Frames.{answer_says}
use Rattle.altsvc_frame.proofs.reading.parse.Goals as goal

pub returns : goal.returns
returns c =
    let says = answer_says c.args.stream c.args.payload.now _ c.read_frame.ensures in
    record { reading = c.read_frame.ensures; ok = says.0; valid = says.1; refused = says.2 }
