use Rattle.std.proofs.Common.{◌≡◌, ◌+◌, drop, false}
use Rattle.field_text.specs.QuotedReading.{read_body}
use Rattle.field_text.proofs.quoted_strings.body_end.Given as goal

-- what is read from here on is what is read of the whole
abbrev pub invariant-loop-i : goal.invariant-loop-i
invariant-loop-i l = read_body l.escaped (l.place + l.i) (drop l.i l.body) ≡ read_body false l.place l.body
