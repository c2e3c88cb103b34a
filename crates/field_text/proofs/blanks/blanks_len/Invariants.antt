use Rattle.std.proofs.Common.{◌≡◌, ◌+◌, drop, length}
use Rattle.field_text.specs.Runs.{run_of}
use Rattle.field_text.specs.BlanksGrammar.{is_blank}
use Rattle.field_text.proofs.blanks.blanks_len.Given as goal

-- the bytes so far and the run from here on are the run in front
abbrev pub invariant-loop-i : goal.invariant-loop-i
invariant-loop-i l = l.i + length (run_of is_blank (drop l.i l.rest)) ≡ length (run_of is_blank l.rest)
