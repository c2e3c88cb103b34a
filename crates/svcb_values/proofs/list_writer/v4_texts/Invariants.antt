use Rattle.std.proofs.Common.{◌≡◌, map, take}
use Rattle.std.specs.Net.Text.{ipv4_text}
use Rattle.svcb_values.proofs.list_writer.v4_texts.Given as goal

abbrev pub invariant-loop-address : goal.invariant-loop-address
invariant-loop-address l = l.texts ≡ map ipv4_text (take l.address-index l.addresses)
