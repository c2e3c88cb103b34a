use Rattle.std.proofs.Common.{subst}
use Rattle.both_ends.specs.Histories.{IsHistory}
use Rattle.both_ends.proofs.Misdirections.{until_listed, below_it}
use Rattle.both_ends.proofs.laws.misdirected_until_listed.Goals as goal

pub returns : goal.returns
returns c = λ h older newer now asked conn request o stream used later between x is split was sent for_it made.
    until_listed older now asked conn request o stream used later between x is (below_it newer older _ (subst IsHistory split is)) was sent for_it made
