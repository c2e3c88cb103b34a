use Rattle.std.proofs.Common.{◌-◌, length}
use Rattle.dns_names.proofs.WireLoop.{HasRead}
use Rattle.dns_names.proofs.wire.read_labels.Given as goal

abbrev pub invariant-loop-labels : goal.invariant-loop-labels
invariant-loop-labels l = HasRead l.place l.octets l.used l.labels

abbrev pub decreases-loop-labels : goal.decreases-loop-labels
decreases-loop-labels l = length l.octets - l.used
