use Rattle.std.proofs.Common.{◌∙◌, ◌++◌, ◌∷◌, [], ap, List}
use Rattle.route_events.specs.declared.route.Route.{Route}
use Rattle.route_events.specs.declared.route.Route.TheVariants.{Rec}
use Rattle.route_choice.proofs.EndpointRoutes.{one_more}
use Rattle.route_choice.proofs.origin_routes.push_endpoints.Goals as goal

pub loop-endpoint-preserved : goal.loop-endpoint-preserved
loop-endpoint-preserved c =
    let e = c.endpoint-item.result in
    c.in_ok-push_endpoint.ensures
    ∙ ap (λ (rs : List Route). rs ++ Rec e ∷ []) c.loop-endpoint.invariant
    ∙ one_more c.args.routes.now c.args.found.now c.loop-endpoint.endpoint-index e c.loop-endpoint-test.true c.endpoint-item.is
