use Rattle.both_ends.specs.Histories.{Begun}
use Rattle.both_ends.proofs.both_ends.BothEnds.new.Goals as goal

pub returns : goal.returns
returns c = record { taken = Begun; client = c.new.ensures; server = c.new-2.ensures }
