use Rattle.std.proofs.Common.{◌≡◌, ◌≤◌, ◌+◌, ◌-◌, drop, length}
use Rattle.altsvc_grammar.specs.ParameterReading.{read_parameters, nothing_given}
use Rattle.altsvc_grammar.proofs.parameters.read_parameters.Given as goal

-- what is read from here on, behind the parameters so far, is what is read of the whole
abbrev pub invariant-loop-turn : goal.invariant-loop-turn
invariant-loop-turn l = record {
  reading : read_parameters (length l.input + 1 - l.turn) l.given l.place (drop l.place l.input) ≡ read_parameters (length l.input + 1) nothing_given l.start (drop l.start l.input);
  within : l.place ≤ length l.input;
}
