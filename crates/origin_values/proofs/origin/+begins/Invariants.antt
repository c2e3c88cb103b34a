use Rattle.std.proofs.Common.{length}
use Rattle.origin_values.proofs.origin.+begins.Given as goal

abbrev pub decreases-begins : goal.decreases-begins
decreases-begins l = length l.letters.now
