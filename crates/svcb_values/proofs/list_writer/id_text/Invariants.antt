use Rattle.std.proofs.Common.{◌≡◌, take}
use Rattle.svcb_values.specs.Written.{id_written}
use Rattle.svcb_values.proofs.list_writer.id_text.Given as goal

abbrev pub invariant-loop-byte : goal.invariant-loop-byte
invariant-loop-byte l = l.text.items ≡ id_written (take l.byte-index l.id)
