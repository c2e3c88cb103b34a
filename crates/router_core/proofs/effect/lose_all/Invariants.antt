use Rattle.std.proofs.Common.{◌≡◌, ◌++◌, map, take}
use Rattle.route_events.specs.declared.action.Action.TheVariants.{Lost}
use Rattle.router_core.proofs.effect.lose_all.Given as goal

abbrev pub invariant-loop-request : goal.invariant-loop-request
invariant-loop-request l = l.actions ≡ l.fn.actions ++ map Lost (take l.request-index l.requests)
