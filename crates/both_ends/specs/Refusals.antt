-- Why an act of the server is refused.
use Rattle.std.specs.Prelude.{ℕ, List, Option, Some, None}
use Rattle.advertiser_core.specs.Acts.{Act, Unserve as UnserveAct, Announce as AnnounceAct, offer_of, withdrawal_of}
use Rattle.advertiser_core.specs.Messages.{messages, numbered}
use Rattle.advertiser_core.specs.Refusals.{refusal}
use Rattle.advertiser_core.specs.declared.fault.ServerFault.{ServerFault}
use Rattle.advertiser_core.specs.declared.fault.ServerFault.TheVariants as fault
use Rattle.advertiser_core.specs.declared.message.Message.{Message}
use Rattle.event_lines.specs.declared.server_act.ServerAct.{ServerAct}
use Rattle.event_lines.specs.declared.server_act.ServerAct.TheVariants.{Serve, Unserve, Offer, Withdraw, Announce, Deliver, Ask}
use Rattle.both_ends.specs.declared.fault.EndFault.{EndFault}
use Rattle.both_ends.specs.declared.fault.EndFault.TheVariants as end
use Rattle.both_ends.specs.declared.fault.EndRefusal.TheVariants as refused
use Rattle.both_ends.specs.declared.refusal.ServerRefusal.{ServerRefusal}
use Rattle.both_ends.specs.declared.refusal.ServerRefusal.TheVariants.{NotServed, NoSuchMessage, Full, OverFrame}

abbrev pub refusal_number : ServerRefusal → ℕ
refusal_number NotServed = 1
refusal_number NoSuchMessage = 2
refusal_number Full = 4
refusal_number OverFrame = 3

-- the reason of the advertiser, as one of these; want of memory is none
abbrev pub reason_of : Option ServerFault → Option ServerRefusal
reason_of None = None
reason_of (Some fault.NoMemory) = None
reason_of (Some fault.NotServed) = Some NotServed
reason_of (Some fault.Full) = Some Full
reason_of (Some (fault.OverFrame length)) = Some OverFrame

-- a delivery is refused where there is no such message
abbrev pub missing : Option Message → Option ServerRefusal
missing None = Some NoSuchMessage
missing (Some message) = None

-- the first reason why the server doesn't take an act
abbrev pub act_refusal : List Act → ServerAct → Option ServerRefusal
act_refusal acts (Serve origin) = None
act_refusal acts (Unserve origin) = reason_of (refusal acts (UnserveAct origin))
act_refusal acts (Offer origin alts) = reason_of (refusal acts (offer_of origin alts))
act_refusal acts (Withdraw origin) = reason_of (refusal acts (withdrawal_of origin))
act_refusal acts Announce = reason_of (refusal acts AnnounceAct)
act_refusal acts (Deliver message conn) = missing (numbered (messages acts) message)
act_refusal acts (Ask request) = None

-- a fault of the advertiser as one of both ends
abbrev pub refused_for : Option ServerRefusal → EndFault
refused_for None = end.NoMemory
refused_for (Some reason) = end.Refused (refused.Server reason)

abbrev pub fault_of : ServerFault → EndFault
fault_of fault = refused_for (reason_of (Some fault))
