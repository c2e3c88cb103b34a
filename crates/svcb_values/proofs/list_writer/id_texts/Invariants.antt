use Rattle.std.proofs.Common.{◌≡◌, map, take}
use Rattle.svcb_values.specs.Written.{id_written}
use Rattle.svcb_values.proofs.list_writer.id_texts.Given as goal

abbrev pub invariant-loop-id : goal.invariant-loop-id
invariant-loop-id l = l.texts ≡ map id_written (take l.id-index l.ids)
