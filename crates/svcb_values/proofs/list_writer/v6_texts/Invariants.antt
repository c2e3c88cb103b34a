use Rattle.std.proofs.Common.{◌≡◌, map, take}
use Rattle.origin_values.specs.Written.{v6_text}
use Rattle.svcb_values.proofs.list_writer.v6_texts.Given as goal

abbrev pub invariant-loop-address : goal.invariant-loop-address
invariant-loop-address l = l.texts ≡ map v6_text (take l.address-index l.addresses)
