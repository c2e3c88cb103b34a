-- Which lists of accepted acts a server stands for, and what its calls say of each of them.
use Rattle.std.specs.Prelude.{◌≡◌, List, ◌∷◌, Some, if◌then◌else◌}
use Rattle.origin_values.specs.declared.origin.Origin.{Origin}
use Rattle.advertiser_core.specs.declared.advertiser.Advertiser.{Advertiser}
use Rattle.advertiser_core.specs.declared.answer.Answer.{Answer}
use Rattle.advertiser_core.specs.declared.answer.Answer.TheVariants.{Serve as AnswerServe, Misdirected}
use Rattle.advertiser_core.specs.declared.fault.ServerFault.{ServerFault}
use Rattle.advertiser_core.specs.declared.fault.ServerFault.TheVariants.{NoMemory, NotServed, Full, OverFrame}
use Rattle.advertiser_core.specs.Acts.{Act}
use Rattle.advertiser_core.specs.ServedList.{is_served, served_list}
use Rattle.advertiser_core.specs.Messages.{messages}
use Rattle.advertiser_core.specs.Refusals.{refusal, AreAccepted}

-- what is kept are the served origins and the messages of these acts
pub record StandsFor (advertiser : Advertiser) (acts : List Act) : Type 0 where
  pub accepted : AreAccepted acts
  pub served : advertiser.served.keys ≡ served_list acts
  pub messages : advertiser.messages.made ≡ messages acts

-- the act is accepted and is the newest now
abbrev pub Takes : Advertiser → Advertiser → Act → Type 0
Takes old new act = (acts : List Act) → StandsFor old acts → StandsFor new (act ∷ acts)

-- nothing was accepted
abbrev pub StandsAsBefore : Advertiser → Advertiser → Type 0
StandsAsBefore old new = (acts : List Act) → StandsFor old acts → StandsFor new acts

-- the act is refused for this; memory may lack at any time
abbrev pub Refuses : Advertiser → Act → ServerFault → Type 0
Refuses old act NoMemory = Unit {0}
Refuses old act NotServed = (acts : List Act) → StandsFor old acts → refusal acts act ≡ Some NotServed
Refuses old act Full = (acts : List Act) → StandsFor old acts → refusal acts act ≡ Some Full
Refuses old act (OverFrame n) = (acts : List Act) → StandsFor old acts → refusal acts act ≡ Some (OverFrame n)

-- RFC 9110 15.5.20: a request of an origin that isn't served is misdirected
abbrev pub answer_to : List Act → Origin → Answer
answer_to acts origin = if is_served acts origin then AnswerServe else Misdirected
