use Rattle.std.proofs.Common.{◌≡◌, ◌++◌, drop}
use Rattle.altsvc_grammar.specs.Written.{encoded}
use Rattle.altsvc_grammar.proofs.written.append_encoded.Given as goal

-- the text so far, and that of the bytes that are left
abbrev pub invariant-loop-byte : goal.invariant-loop-byte
invariant-loop-byte l = l.text.items ++ encoded (drop l.byte-index l.proto) ≡ l.initial.text.items ++ encoded l.proto
