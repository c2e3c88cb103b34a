use Rattle.std.proofs.Common.{◌∙◌}
use Rattle.request_dispatch.proofs.Addressing.{listed_so}
use Rattle.request_dispatch.proofs.origin_addresses.lists_in_force.Goals as goal

pub returns : goal.returns
returns c = c.has_address.ensures ∙ listed_so c.args.answers.now c.args.now.0 c.args.name.now c.args.addr.now
