use Rattle.std.proofs.Common.{◌≡◌, take}
use Rattle.dns_names.specs.Names.{labels_octets}
use Rattle.dns_names.proofs.wire.write_labels.Given as goal

abbrev pub invariant-loop-label : goal.invariant-loop-label
invariant-loop-label l = l.octets.items ≡ labels_octets (take l.label-index l.labels)
