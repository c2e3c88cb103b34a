use Rattle.std.proofs.Common.{refl}
use Rattle.h2_framing.specs.Streams.{split_of}
use Rattle.h2_framing.proofs.reader.FrameReader.new.Goals as goal

pub returns : goal.returns
unfolding split_of
returns c = record { keeps = record { part = c.new.ensures.items; counted = refl }; going = refl }
