use Rattle.std.proofs.Common.{◌≡◌, ◌+◌, drop, length}
use Rattle.field_text.specs.TokenReading.{token_of}
use Rattle.field_text.proofs.tokens.token_len.Given as goal

-- the bytes so far and the run from here on are the run in front
abbrev pub invariant-loop-i : goal.invariant-loop-i
invariant-loop-i l = l.i + length (token_of (drop l.i l.rest)) ≡ length (token_of l.rest)
