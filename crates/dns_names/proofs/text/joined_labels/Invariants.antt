use Rattle.std.proofs.Common.{◌-◌, length}
use Rattle.dns_names.proofs.TextLoop.{TextRead}
use Rattle.dns_names.proofs.text.joined_labels.Given as goal

abbrev pub invariant-loop-labels : goal.invariant-loop-labels
invariant-loop-labels l = TextRead l.text l.labels l.label l.used l.start l.place

abbrev pub decreases-loop-labels : goal.decreases-loop-labels
decreases-loop-labels l = length l.text - l.place
