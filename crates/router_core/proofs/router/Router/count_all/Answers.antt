use Rattle.std.proofs.Common.{List, [], ◌∷◌, ◌++◌, length, ap, ◌∙◌}
use Rattle.route_events.specs.declared.action.Action.{Action}
use Rattle.route_events.specs.declared.action.Action.TheVariants.{Stats}
use Rattle.router_core.proofs.Tallying.{fits}
use Rattle.router_core.proofs.router.Router.count_all.Goals as goal

pub returns : goal.returns
returns c =
    let tables = c.args.self.now.tables in
    record {
      alternatives = c.count.result;
      live = c.count.ensures;
      answers = c.count-2.result;
      in_force = c.count-2.ensures;
      broken = c.count-3.result;
      barred = c.count-3.ensures;
      is = c.in_ok-push.ensures.ok
          ∙ ap (λ (as' : List Action). as' ++ Stats c.count.result c.count-2.result c.count-3.result c.len.result c.waiting_len.result ∷ []) c.new-answer.ensures
          ∙ (λ i. Stats c.count.result c.count-2.result c.count-3.result (fits c.len.result (length tables.connections) c.len.ensures c.len.type_inv i) (fits c.waiting_len.result (length tables.requests.waiting) c.waiting_len.ensures c.waiting_len.type_inv i) ∷ []);
    }
