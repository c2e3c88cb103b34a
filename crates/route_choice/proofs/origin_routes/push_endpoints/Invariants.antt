use Rattle.std.proofs.Common.{◌≡◌, ◌++◌, map, take}
use Rattle.route_events.specs.declared.route.Route.TheVariants.{Rec}
use Rattle.route_choice.proofs.origin_routes.push_endpoints.Given as goal

abbrev pub invariant-loop-endpoint : goal.invariant-loop-endpoint
invariant-loop-endpoint l = l.routes ≡ l.fn.routes ++ map Rec (take l.endpoint-index l.found)
