use Rattle.std.proofs.Common.{◌≡◌, ◌++◌, take, map}
use Rattle.dns_names.specs.TextParts.{part_of, parts_text}
use Rattle.dns_names.proofs.text_writer.write_label.Given as goal

abbrev pub invariant-loop-byte : goal.invariant-loop-byte
invariant-loop-byte l = l.text.items ≡ l.fn.text.items ++ parts_text (map part_of (take l.byte-index l.label))
