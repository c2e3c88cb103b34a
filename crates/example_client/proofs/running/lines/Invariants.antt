use Rattle.std.proofs.Common.{◌≡◌, ◌++◌, codes, drop}
use Rattle.example_client.specs.Transcript.{actions_text}
use Rattle.example_client.proofs.running.lines.Given as goal

abbrev pub invariant-loop-action : goal.invariant-loop-action
invariant-loop-action l = l.text.items ++ actions_text (drop l.action-index l.actions) ≡ (l.line ++ codes "\n") ++ actions_text l.actions
