use Rattle.std.proofs.Common.{◌≡◌, take, map}
use Rattle.dns_names.specs.TextParts.{part_of, dotted}
use Rattle.dns_names.proofs.text_writer.write_labels.Given as goal

abbrev pub invariant-loop-label : goal.invariant-loop-label
invariant-loop-label l = l.text.items ≡ dotted (map (map part_of) (take l.label-index l.labels))
