use Rattle.std.proofs.Common.{◌∙◌, refl}
use Rattle.advertiser_core.proofs.Standing.{inserted_is_listed}
use Rattle.advertiser_core.proofs.advertiser.Advertiser.serve.Goals as goal

pub returns-clause-served : goal.returns-clause-served
returns-clause-served c = λ acts s. record {
  accepted = (c.requires, refl, s.accepted);
  served = c.in_ok-insert.ensures.keys ∙ inserted_is_listed c.args.self.now acts c.args.origin s;
  messages = s.messages;
}
