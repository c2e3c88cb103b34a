use Rattle.std.proofs.Common.{◌≡◌, ◌+◌, drop, length}
use Rattle.field_text.specs.Runs.{run_of}
use Rattle.svcb_values.specs.KeyNames.{is_key_byte}
use Rattle.svcb_text.proofs.params.key_len.Given as goal

-- the bytes so far and the run from here on are the run in front
abbrev pub invariant-loop-i : goal.invariant-loop-i
invariant-loop-i l = l.i + length (run_of is_key_byte (drop l.i l.rest)) ≡ length (run_of is_key_byte l.rest)
