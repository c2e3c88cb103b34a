-- What an act of the server is to either end.
use Rattle.std.specs.Prelude.{◌≡◌, ℕ, ◌+◌, List, ◌∷◌, length, Option, Some, None}
use Rattle.std.specs.Option.{option_map}
use Rattle.origin_values.specs.declared.origin.Origin.{Origin}
use Rattle.altsvc_grammar.specs.declared.alt_svc.AltSvc.TheVariants as value
use Rattle.advertiser_core.specs.Acts.{Act, Serve as ServeAct, Unserve as UnserveAct, Announce as AnnounceAct, offer_of, withdrawal_of}
use Rattle.advertiser_core.specs.Messages.{messages, numbered, origins_message, value_message}
use Rattle.advertiser_core.specs.ServedList.{served_list}
use Rattle.advertiser_core.specs.StandsFor.{answer_to}
use Rattle.advertiser_core.specs.declared.answer.Answer.{Answer}
use Rattle.advertiser_core.specs.declared.answer.Answer.TheVariants as answer
use Rattle.advertiser_core.specs.declared.message.Message.{Message}
use Rattle.event_lines.specs.declared.server_act.ServerAct.{ServerAct}
use Rattle.event_lines.specs.declared.server_act.ServerAct.TheVariants.{Serve, Unserve, Offer, Withdraw, Announce, Deliver, Ask}
use Rattle.route_events.specs.declared.fact.Fact.{Fact}
use Rattle.route_events.specs.declared.fact.Fact.TheVariants as fact
use Rattle.route_events.specs.Journal.{Journal}
use Rattle.router_core.specs.Lent.{outstanding_origin}
use Rattle.both_ends.specs.declared.output.ServerOutput.{ServerOutput}
use Rattle.both_ends.specs.declared.output.ServerOutput.TheVariants.{Nothing, Made, Answered}

-- to the server it is an act of its own, but for a delivery and an answer, which change nothing there
abbrev pub with_act : ServerAct → List Act → List Act
with_act (Serve origin) acts = ServeAct origin ∷ acts
with_act (Unserve origin) acts = UnserveAct origin ∷ acts
with_act (Offer origin alts) acts = offer_of origin alts ∷ acts
with_act (Withdraw origin) acts = withdrawal_of origin ∷ acts
with_act Announce acts = AnnounceAct ∷ acts
with_act (Deliver message conn) acts = acts
with_act (Ask request) acts = acts

-- the origin of the request that is to be answered, where it is outstanding
abbrev pub asked_origin : Journal → ServerAct → Option Origin
asked_origin journal (Ask request) = outstanding_origin journal request
asked_origin journal _ = None

-- the server's answer: a request that isn't outstanding is answered as if its origin were served, and then refused by the step
abbrev pub answer_for : List Act → Option Origin → Answer
answer_for acts None = answer.Serve
answer_for acts (Some origin) = answer_to acts origin

-- the answer's status: a request that is misdirected gets 421 (RFC 9110 15.5.20)
abbrev pub status_of : Answer → ℕ
status_of answer.Serve = 200
status_of answer.Misdirected = 421

-- a message that reaches a connection, as one whole frame
abbrev pub delivered : ℕ → Message → Fact
delivered conn message = fact.Delivered conn message.head message.payload

-- the fact that an act is to the client: a delivery is the frame of the message of its number, if there is one, an answer a
-- response without fields, and any other act only tells the time
abbrev pub fact_by : List Act → Option Origin → ServerAct → Option Fact
fact_by acts asked (Deliver message conn) = option_map (delivered conn) (numbered (messages acts) message)
fact_by acts asked (Ask request) = Some (fact.Response request (status_of (answer_for acts asked)) 0 None)
fact_by acts asked _ = Some fact.Tick

-- the message that an act makes: an ALTSVC frame of the alternatives, or of `clear` (RFC 7838 4), or an ORIGIN frame of the
-- origins that are served (RFC 8336 2)
abbrev pub message_by : List Act → ServerAct → Option Message
message_by acts (Offer origin alts) = Some (value_message origin (value.List alts))
message_by acts (Withdraw origin) = Some (value_message origin value.Clear)
message_by acts Announce = Some (origins_message (served_list acts))
message_by acts _ = None

-- what the server gives: the number of a message that is made, or an answer
abbrev pub output_by : List Act → Option Origin → ServerAct → ServerOutput
output_by acts asked (Offer origin alts) = Made (length (messages acts) + 1)
output_by acts asked (Withdraw origin) = Made (length (messages acts) + 1)
output_by acts asked Announce = Made (length (messages acts) + 1)
output_by acts asked (Ask request) = Answered request (answer_for acts asked)
output_by acts asked _ = Nothing
