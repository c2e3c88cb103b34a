use Rattle.std.proofs.Common.{◌∙◌}
use Rattle.router_core.proofs.Lending.{origin_lent}
use Rattle.router_core.proofs.router.Router.origin_of.Goals as goal

pub returns : goal.returns
returns c = λ journal stands. c.origin_of.ensures ∙ origin_lent journal c.args.self.now.tables.requests.outstanding c.args.request stands.outstanding
