use Rattle.std.proofs.Common.{◌∙◌, sym}
use Rattle.advertiser_core.proofs.ServedLists.{list_at_first}
use Rattle.advertiser_core.proofs.advertiser.Advertiser.new.Goals as goal

pub returns : goal.returns
returns c = record { accepted = tt; served = c.new.ensures.empty ∙ sym list_at_first; messages = c.new-2.ensures }
