use Rattle.std.proofs.Common.{◌≡◌, ◌<◌, None, IfSome, drop, length}
use Rattle.altsvc_grammar.specs.AuthorityReading.{last_colon}
use Rattle.altsvc_grammar.proofs.authority.last_colon.Given as goal

-- what is found from here on, behind what was found so far, is what is found in the whole
abbrev pub invariant-loop-i : goal.invariant-loop-i
invariant-loop-i l = record {
  finds : last_colon l.i l.found (drop l.i l.text) ≡ last_colon 0 None l.text;
  within : IfSome l.found (λ colon. colon < length l.text);
}
