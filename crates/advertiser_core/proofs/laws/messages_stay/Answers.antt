use Rattle.advertiser_core.specs.ServedList.{served_list}
use Rattle.advertiser_core.specs.Messages.{messages, origins_message, value_message}
use Rattle.advertiser_core.proofs.Numbers.{stays, last_numbered}
use Rattle.advertiser_core.proofs.laws.messages_stay.Goals as goal

pub returns-clause-stay : goal.returns-clause-stay
returns-clause-stay c = stays

pub returns-clause-announced : goal.returns-clause-announced
returns-clause-announced c = λ acts. last_numbered (messages acts) (origins_message (served_list acts))

pub returns-clause-advertised : goal.returns-clause-advertised
returns-clause-advertised c = λ acts origin value. last_numbered (messages acts) (value_message origin value)
