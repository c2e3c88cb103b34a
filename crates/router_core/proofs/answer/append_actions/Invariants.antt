use Rattle.std.proofs.Common.{◌≡◌, ◌++◌}
use Rattle.router_core.proofs.answer.append_actions.Given as goal

-- what is there and what is left are all of them
abbrev pub invariant-loop-action : goal.invariant-loop-action
invariant-loop-action l = l.actions ++ l.action-iterator.rest.items ≡ l.fn.actions ++ l.fn.more
