use Rattle.std.proofs.Common.{ap, ◌∙◌}
use Rattle.origin_values.specs.declared.origin.Origin.{Origin}
use Rattle.request_dispatch.specs.Carriers.{is_answered_by_authority}
use Rattle.request_dispatch.specs.Asked.{Asked}
use Rattle.request_dispatch.specs.Looks.{address_at}
use Rattle.router_core.proofs.answer.is_answered_by_authority.Goals as goal

pub returns : goal.returns
returns c =
    let connections = c.args.connections.now in
    let number = c.args.request.now.number in
    c.is_answered_by_authority.ensures
    ∙ ap (λ (k : Asked). is_answered_by_authority k.is_address number k.origin connections) c.in_ok-addresses.ensures
    ∙ ap (λ (o : Origin). is_answered_by_authority (address_at c.args.answers.now c.args.now.0) number o connections) c.in_ok-origin.ensures
