use Rattle.std.proofs.Common.{◌∙◌, ◌++◌, ◌∷◌, [], ap, List, map}
use Rattle.alias_chain.specs.declared.endpoint.Endpoint.{Endpoint}
use Rattle.route_events.specs.declared.route.Route.{Route}
use Rattle.route_events.specs.declared.route.Route.TheVariants.{Direct, Rec}
use Rattle.route_events.specs.Routes.{by_alternatives}
use Rattle.route_choice.proofs.origin_routes.routes.Goals as goal

pub returns : goal.returns
returns c =
    let live = by_alternatives c.args.live.now in
    let before = c.in_ok-push_endpoints.ensures
    ∙ ap (λ (rs : List Route). rs ++ map Rec c.as_slice.result.now) c.in_ok-routes.ensures
    ∙ ap (λ (es : List Endpoint). live ++ map Rec es) c.as_slice.ensures in
    c.in_ok-push.ensures.ok
    ∙ ap (λ (rs : List Route). rs ++ Direct ∷ []) before
