use Rattle.std.proofs.Common.{◌≡◌, map, take}
use Rattle.svcb_values.specs.KeyNames.{key_name}
use Rattle.svcb_values.proofs.list_writer.key_texts.Given as goal

abbrev pub invariant-loop-key : goal.invariant-loop-key
invariant-loop-key l = l.texts ≡ map key_name (take l.key-index l.keys)
