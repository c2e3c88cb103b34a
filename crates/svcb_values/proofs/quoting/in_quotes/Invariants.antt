use Rattle.std.proofs.Common.{◌≡◌, ◌∷◌, take, map}
use Rattle.dns_names.specs.TextParts.{parts_text}
use Rattle.svcb_values.specs.Written.{written_part}
use Rattle.svcb_values.proofs.quoting.in_quotes.Given as goal

abbrev pub invariant-loop-byte : goal.invariant-loop-byte
invariant-loop-byte l = l.text.items ≡ 34 ∷ parts_text (map written_part (take l.byte-index l.bytes))
