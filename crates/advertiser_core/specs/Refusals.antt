-- Which acts are refused, and which lists of acts are accepted.
use Rattle.std.specs.Prelude.{◌≡◌, ◌<◌, ℕ, nat_eq, nat_lt, List, [], ◌∷◌, length, Option, None, Some, if◌then◌else◌}
use Rattle.origin_frame.specs.PayloadWritten.{payload_of as origins_payload, frame_limit, capped}
use Rattle.origin_frame.specs.declared.over_fault.OverFault.{OverFault}
use Rattle.origin_frame.specs.declared.over_fault.OverFault.TheVariants as over
use Rattle.advertiser_core.specs.declared.fault.ServerFault.{ServerFault}
use Rattle.advertiser_core.specs.declared.fault.ServerFault.TheVariants.{NoMemory, NotServed, Full, OverFrame}
use Rattle.advertiser_core.specs.Acts.{Act, Serve, Unserve, Announce, Advertise, IsAct}
use Rattle.advertiser_core.specs.ServedList.{is_served, served_list}
use Rattle.advertiser_core.specs.Messages.{messages, value_payload}

-- the most messages of one server
abbrev pub most_messages : ℕ
most_messages = 16777215

abbrev pub IsFull : List Act → Type 0
IsFull acts = length (messages acts) ≡ most_messages

-- a payload would pass the limit, and has this length, as far as it is told
abbrev pub IsOver : List ℕ → ℕ → Type 0
IsOver payload n = (frame_limit < length payload) × (n ≡ capped (length payload))

-- why no message of this payload is made: as many are kept as may be, or the payload is too long
abbrev pub message_refusal : List Act → List ℕ → Option ServerFault
message_refusal acts payload =
    if nat_eq (length (messages acts)) most_messages then Some Full
    else (if nat_lt frame_limit (length payload) then Some (OverFrame (capped (length payload))) else None)

-- why an act is refused; an origin that isn't served is unserved and advertised by none
abbrev pub refusal : List Act → Act → Option ServerFault
refusal acts (Serve origin) = None
refusal acts (Unserve origin) = if is_served acts origin then None else Some NotServed
refusal acts Announce = message_refusal acts (origins_payload (served_list acts))
refusal acts (Advertise origin value) = if is_served acts origin then message_refusal acts (value_payload origin value) else Some NotServed

-- each act is in its form and wasn't refused after those before it
abbrev pub AreAccepted : List Act → Type 0
AreAccepted [] = Unit {0}
AreAccepted (act ∷ acts) = IsAct act × (refusal acts act ≡ None) × AreAccepted acts

-- the fault that a payload's is
abbrev pub fault_of : OverFault → ServerFault
fault_of over.NoMemory = NoMemory
fault_of (over.OverFrame n) = OverFrame n
