-- The numbers of messages.
use Rattle.std.proofs.Common.{◌≡◌, ℕ, ◌+◌, ◌≤◌, zero, suc, false, nat_eq, List, [], ◌∷◌, ◌++◌, length, slice_get, Some, refl, arith, add-one}
use Rattle.std.proofs.lemmas.List.{length-append}
use Rattle.alt_base.proofs.Numbers.{false_eq}
use Rattle.origin_frame.specs.PayloadWritten.{payload_of as origins_payload}
use Rattle.advertiser_core.specs.declared.message.Message.{Message}
use Rattle.advertiser_core.specs.Acts.{Act, Serve, Unserve, Announce, Advertise}
use Rattle.advertiser_core.specs.ServedList.{is_served, served_list}
use Rattle.advertiser_core.specs.Messages.{messages, numbered, value_payload}
use Rattle.advertiser_core.specs.Refusals.{most_messages, AreAccepted}
use Rattle.advertiser_core.proofs.MadeMessages.{made_where_served, room_where_made}

-- what stands behind changes nothing in front
in_front : (made more : List Message) (n : ℕ) (message : Message) → slice_get made n ≡ Some message → slice_get (made ++ more) n ≡ Some message
in_front [] more n message h = cc
in_front (m ∷ made) more zero message h = h
in_front (m ∷ made) more (suc n) message h = in_front made more n message h

front_numbered : (made more : List Message) (n : ℕ) (message : Message) → numbered made n ≡ Some message → numbered (made ++ more) n ≡ Some message
front_numbered made more zero message h = cc
front_numbered made more (suc n) message h = in_front made more n message h

at_end : (made : List Message) (message : Message) → slice_get (made ++ message ∷ []) (length made) ≡ Some message
at_end [] message = refl
at_end (m ∷ made) message = at_end made message

pub last_numbered : (made : List Message) (message : Message) → numbered (made ++ message ∷ []) (length made + 1) ≡ Some message
last_numbered made message = rw add-one (at_end made message)

pub stays : (act : Act) (acts : List Act) (n : ℕ) (message : Message) → numbered (messages acts) n ≡ Some message → numbered (messages (act ∷ acts)) n ≡ Some message
stays (Serve o) acts n message h = h
stays (Unserve o) acts n message h = h
stays Announce acts n message h = front_numbered (messages acts) _ n message h
stays (Advertise o value) acts n message h = front_numbered (messages acts) _ n message h

-- one more message where there is room
one_more : (made : List Message) (message : Message) → length made ≤ most_messages → nat_eq (length made) most_messages ≡ false → length (made ++ message ∷ []) ≤ most_messages
one_more made message few room =
    let other = false_eq (length made) most_messages room in
    let more = length-append made (message ∷ []) in
    omega arith

pub few_messages : (acts : List Act) → AreAccepted acts → length (messages acts) ≤ most_messages
few_messages [] accepted = omega arith
few_messages (Serve o ∷ acts) accepted = few_messages acts accepted.2
few_messages (Unserve o ∷ acts) accepted = few_messages acts accepted.2
few_messages (Announce ∷ acts) accepted = one_more (messages acts) _ (few_messages acts accepted.2) (room_where_made acts (origins_payload (served_list acts)) accepted.1)
few_messages (Advertise o value ∷ acts) accepted =
    one_more (messages acts) _ (few_messages acts accepted.2) (room_where_made acts (value_payload o value) (made_where_served acts (value_payload o value) (is_served acts o) accepted.1))
