use Rattle.advertiser_core.proofs.MadeMessages.{numbered_is_whole, numbered_is_frame}
use Rattle.advertiser_core.proofs.Numbers.{few_messages}
use Rattle.advertiser_core.proofs.laws.messages_are_whole.Goals as goal

pub returns-clause-whole : goal.returns-clause-whole
returns-clause-whole c = numbered_is_whole

pub returns-clause-frame : goal.returns-clause-frame
returns-clause-frame c = numbered_is_frame

pub returns-clause-few : goal.returns-clause-few
returns-clause-few c = few_messages
