use Rattle.std.proofs.Common.{◌≡◌, ◌≤◌, ◌+◌, ◌-◌, drop, length}
use Rattle.altsvc_grammar.specs.ValueReading.{read_elements, nothing_seen}
use Rattle.altsvc_grammar.specs.SeenElements.{seen_of}
use Rattle.altsvc_grammar.proofs.elements.read_elements.Given as goal

-- what is read from here on, behind the elements so far, is what is read of the whole
abbrev pub invariant-loop-turn : goal.invariant-loop-turn
invariant-loop-turn l = record {
  reading : read_elements (length l.input + 1) (length l.input + 1 - l.turn) (seen_of l.seen) l.place (drop l.place l.input) ≡ read_elements (length l.input + 1) (length l.input + 1) nothing_seen 0 l.input;
  within : l.place ≤ length l.input;
}
