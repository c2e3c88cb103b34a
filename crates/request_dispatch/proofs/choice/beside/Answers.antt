use Rattle.std.proofs.Common.{◌≡◌, Bool, not, List, Option, find, ap, ◌∙◌, subst, IfOk}
use Rattle.altsvc_grammar.specs.declared.alt.Alt.{Alt}
use Rattle.route_choice.specs.Contents.{kept_failures}
use Rattle.route_events.specs.declared.route.Route.{Route}
use Rattle.route_events.specs.Backoff.{is_barred_by}
use Rattle.route_events.specs.Routes.{by_alternatives}
use Rattle.request_dispatch.specs.Choices.{unless_in_use}
use Rattle.request_dispatch.proofs.choice.beside.Goals as goal

pub returns : goal.returns
returns c =
    let unbroken : Route → Bool = λ r. not (is_barred_by (kept_failures c.args.broken.now c.args.origin.now r) r c.args.now.0) in
    subst (λ (first : Option Route). IfOk c.unless_in_use.result (λ route. route ≡ unless_in_use c.args.tables.now c.args.origin.now first))
    (c.first_unbroken-first.ensures ∙ ap (λ (rs : List Route). find unbroken rs) (c.in_ok-routes.ensures ∙ ap (λ (alts : List Alt). by_alternatives alts) c.in_ok-live.ensures))
    c.unless_in_use.ensures
