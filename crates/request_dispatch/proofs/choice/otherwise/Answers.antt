use Rattle.std.proofs.Common.{◌≡◌, ◌∷◌, [], ◌++◌, ap, ◌∙◌, subst, List, map, IfOk}
use Rattle.origin_values.specs.declared.origin.Origin.{Origin}
use Rattle.origin_values.specs.declared.protos.Protos.{Protos}
use Rattle.altsvc_grammar.specs.declared.alt.Alt.{Alt}
use Rattle.alias_chain.specs.declared.endpoint.Endpoint.{Endpoint}
use Rattle.alias_chain.specs.Following.{endpoints_by}
use Rattle.alias_chain.specs.Held.{body_at}
use Rattle.answer_store.specs.Contents.{https_held}
use Rattle.route_events.specs.declared.route.Route.TheVariants.{Direct, Rec}
use Rattle.route_events.specs.Routes.{by_alternatives}
use Rattle.request_dispatch.specs.Asked.{asked_by}
use Rattle.request_dispatch.specs.Looks.{live_at}
use Rattle.request_dispatch.proofs.Otherwise.{by_routes_is}
use Rattle.request_dispatch.proofs.choice.otherwise.Goals as goal

pub returns : goal.returns
returns c =
    let cache = c.args.cache.now in
    let answers = c.args.answers.now in
    let now = c.args.now.0 in
    let origin : Origin = c.args.waiting.now.request.origin in
    let found = c.in_ok-found.ensures.followed ∙ ap (λ (p : Protos). endpoints_by (λ name. body_at now (https_held answers name)) p origin) c.supported-protos.ensures in
    subst (λ x. IfOk c.by_routes.result (λ chosen. chosen ≡ x))
    (by_routes_is cache c.args.broken.now answers now (asked_by c.args.addresses.now).is_address c.args.tables.now c.args.waiting.now _
    (c.in_ok-routes.ensures
    ∙ ap (λ (alts : List Alt). by_alternatives alts ++ map Rec c.in_ok-found.found ++ Direct ∷ []) c.in_ok-live.ensures
    ∙ ap (λ (es : List Endpoint). by_alternatives (live_at cache now origin) ++ map Rec es ++ Direct ∷ []) found))
    c.by_routes.ensures
