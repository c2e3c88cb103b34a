use Rattle.std.proofs.Common.{length, ap, arith}
use Rattle.h2_framing.specs.Streams.{rest_of}
use Rattle.h2_framing.proofs.Holding.{held_few, held_size}
use Rattle.h2_framing.proofs.Splitting.{rest_unfinished}
use Rattle.h2_framing.proofs.reader.FrameReader.held.Goals as goal

pub returns-clause-buffer : goal.returns-clause-buffer
returns-clause-buffer c = λ x stands.
    let few = held_few c.args.self.now.buffer.items (rest_of x) c.args.self.now.skipped stands.keeps (rest_unfinished x stands.going) in
    omega (arith, few, c.min.ensures, c.len.ensures)

pub returns-clause-count : goal.returns-clause-count
returns-clause-count c = λ x stands.
    let few = held_few c.args.self.now.buffer.items (rest_of x) c.args.self.now.skipped stands.keeps (rest_unfinished x stands.going) in
    omega (arith, few, ap length stands.keeps.part, held_size (rest_of x), c.min.ensures, c.len.ensures)
