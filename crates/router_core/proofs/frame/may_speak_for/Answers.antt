use Rattle.std.proofs.Common.{ap, ◌∙◌}
use Rattle.origin_values.specs.declared.origin.Origin.{Origin}
use Rattle.request_dispatch.specs.ConnectionTable.{is_carrier}
use Rattle.request_dispatch.specs.Asked.{Asked}
use Rattle.request_dispatch.specs.Looks.{address_at}
use Rattle.router_core.proofs.frame.may_speak_for.Goals as goal

pub returns : goal.returns
returns c =
    c.is_carrier.ensures
    ∙ ap (λ (k : Asked). is_carrier k.is_address k.origin c.args.connection.now) c.in_ok-addresses.ensures
    ∙ ap (λ (o : Origin). is_carrier (address_at c.args.answers.now c.args.now.0) o c.args.connection.now) c.in_ok-asked.ensures
