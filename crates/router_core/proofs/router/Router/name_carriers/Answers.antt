use Rattle.std.proofs.Common.{ℕ, List, [], ◌∷◌, ◌++◌, ap, ◌∙◌}
use Rattle.origin_values.specs.declared.origin.Origin.{Origin}
use Rattle.route_events.specs.declared.action.Action.{Action}
use Rattle.route_events.specs.declared.action.Action.TheVariants.{Who}
use Rattle.request_dispatch.specs.ConnectionTable.{carrier_numbers}
use Rattle.request_dispatch.specs.Asked.{Asked}
use Rattle.request_dispatch.specs.Looks.{address_at}
use Rattle.router_core.proofs.router.Router.name_carriers.Goals as goal

pub returns : goal.returns
returns c =
    let router = c.args.self.now in
    c.in_ok-push.ensures.ok
    ∙ ap (λ (as' : List Action). as' ++ Who c.args.origin c.in_ok-conns.conns ∷ []) c.new-answer.ensures
    ∙ ap (λ (numbers : List ℕ). Who c.args.origin numbers ∷ [])
    (c.in_ok-conns.ensures
    ∙ ap (λ (k : Asked). carrier_numbers k.is_address k.origin router.tables.connections) c.in_ok-addresses.ensures
    ∙ ap (λ (o : Origin). carrier_numbers (address_at router.answers router.last) o router.tables.connections) c.in_ok-asked.ensures)
