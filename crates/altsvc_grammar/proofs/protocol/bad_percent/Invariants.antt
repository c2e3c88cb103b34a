use Rattle.std.proofs.Common.{◌≡◌, ◌+◌, drop}
use Rattle.altsvc_grammar.specs.ProtocolReading.{bad_percent}
use Rattle.altsvc_grammar.proofs.protocol.bad_percent.Given as goal

-- what is found from here on is what is found in the whole
abbrev pub invariant-loop-i : goal.invariant-loop-i
invariant-loop-i l = bad_percent (l.place + l.i) (drop l.i l.token) ≡ bad_percent l.place l.token
