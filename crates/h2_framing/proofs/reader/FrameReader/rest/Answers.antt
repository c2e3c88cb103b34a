use Rattle.std.proofs.Common.{ap, arith, length}
use Rattle.h2_framing.specs.Streams.{rest_of}
use Rattle.h2_framing.proofs.Holding.{held_few}
use Rattle.h2_framing.proofs.Splitting.{rest_unfinished}
use Rattle.h2_framing.proofs.reader.FrameReader.rest.Goals as goal

pub returns : goal.returns
returns c = λ x stands.
    let few = held_few c.args.self.now.buffer.items (rest_of x) c.args.self.now.skipped stands.keeps (rest_unfinished x stands.going) in
    let held = c.held.ensures.buffer x stands in
    omega (arith, few, ap length stands.keeps.part, held, stands.keeps.counted, c.saturating_add.ensures)
