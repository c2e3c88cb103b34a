use Rattle.std.proofs.Common.{◌≡◌, ◌≤◌, drop}
use Rattle.field_text.specs.DeltaGrammar.{greatest_delta_seconds}
use Rattle.field_text.proofs.DeltaLemmas.{read_digits}
use Rattle.field_text.proofs.seconds.delta_seconds.Given as goal

-- what is read from here on, after the number so far, is what is read of the whole
abbrev pub invariant-loop-digit : goal.invariant-loop-digit
invariant-loop-digit l = record {
  reads : read_digits l.seconds (drop l.digit-index l.input) ≡ read_digits 0 l.input;
  capped : l.seconds ≤ greatest_delta_seconds;
}
