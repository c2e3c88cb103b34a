use Rattle.std.proofs.Common.{◌≡◌, subst, IfOk}
use Rattle.std.specs.Option.{option_copied}
use Rattle.origin_values.specs.declared.origin.Origin.{Origin}
use Rattle.request_dispatch.specs.Asked.{asked_by}
use Rattle.request_dispatch.specs.Carriers.{best_connection}
use Rattle.request_dispatch.proofs.choice.best_for.Goals as goal

pub returns : goal.returns
returns c =
    subst (λ (o : Origin). IfOk c.best.result (λ found. option_copied found ≡ best_connection (asked_by c.args.addresses.now).is_address o c.args.tables.now.connections)) c.requires
    c.best.ensures
