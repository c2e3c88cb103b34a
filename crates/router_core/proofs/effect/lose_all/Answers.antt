use Rattle.std.proofs.Common.{◌++◌, ◌∷◌, [], ap, ◌∙◌, sym, append_assoc, map, take, get_or, List}
use Rattle.route_events.specs.declared.action.Action.{Action}
use Rattle.route_events.specs.declared.action.Action.TheVariants.{Lost}
use Rattle.request_dispatch.proofs.Loops.{map_more}
use Rattle.router_core.proofs.effect.lose_all.Goals as goal

pub loop-request-preserved : goal.loop-request-preserved
loop-request-preserved c =
    c.in_ok-push.ensures.ok
    ∙ ap (λ (as' : List Action). as' ++ Lost (get_or c.args.requests.now c.loop-request.request-index 0) ∷ []) c.loop-request.invariant
    ∙ append_assoc c.args.actions.now (map Lost (take c.loop-request.request-index c.args.requests.now)) (Lost (get_or c.args.requests.now c.loop-request.request-index 0) ∷ [])
    ∙ ap (λ (as' : List Action). c.args.actions.now ++ as') (sym (map_more Lost c.args.requests.now c.loop-request.request-index 0 c.loop-request-test.true))
