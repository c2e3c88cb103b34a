use Rattle.std.proofs.Common.{◌≡◌, ◌++◌, map, take, drop}
use Rattle.route_choice.specs.FailedRoutes.{once_more}
use Rattle.route_choice.proofs.failed_route.fail_all_once_more.Given as goal

abbrev pub invariant-loop-f : goal.invariant-loop-f
invariant-loop-f l = l.failed ≡ map (once_more l.now.0 l.origin l.route) (take l.f-index l.fn.failed) ++ drop l.f-index l.fn.failed
