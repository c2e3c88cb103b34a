use Rattle.std.proofs.Common.{◌≡◌, take}
use Rattle.route_events.specs.Routes.{by_alternatives}
use Rattle.route_choice.proofs.origin_routes.alternative_routes.Given as goal

abbrev pub invariant-loop-alt : goal.invariant-loop-alt
invariant-loop-alt l = l.routes ≡ by_alternatives (take l.alt-index l.alt-items)
