use Rattle.std.proofs.Common.{◌≡◌, ◌++◌, drop}
use Rattle.altroute_program.specs.Texts.{actions_text}
use Rattle.altroute_program.proofs.texts.write_actions.Given as goal

abbrev pub invariant-loop-action : goal.invariant-loop-action
invariant-loop-action l = l.text.items ++ actions_text (drop l.action-index l.actions) ≡ actions_text l.actions
