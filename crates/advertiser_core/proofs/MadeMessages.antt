-- The messages that accepted acts have made.
use Rattle.std.proofs.Common.{◌≡◌, ℕ, ◌^◌, ap, ◌<◌, ◌≤◌, zero, suc, Bool, true, false, cond, nat_eq, nat_lt, List, [], ◌∷◌, length, Some, None, All, refl, subst, arith}
use Rattle.std.proofs.lemmas.List.Elements.{All-nil, All-push, All-get_or}
use Rattle.std.proofs.lemmas.Option.{slice_get_within, get_or_from_slice_get}
use Rattle.alt_base.proofs.Numbers.{false_lt}
use Rattle.h2_framing.specs.Frames.{IsFrame, octets_of, is_kept}
use Rattle.h2_framing.specs.declared.frame.Frame.TheVariants.{Kept, Passed}
use Rattle.h2_framing.proofs.Splitting.{written_frame}
use Rattle.origin_frame.specs.PayloadWritten.{payload_of as origins_payload, frame_limit, capped}
use Rattle.advertiser_core.specs.declared.message.Message.{Message}
use Rattle.advertiser_core.specs.declared.fault.ServerFault.TheVariants.{NotServed, Full, OverFrame}
use Rattle.advertiser_core.specs.Acts.{Act, Serve, Unserve, Announce, Advertise}
use Rattle.advertiser_core.specs.ServedList.{is_served, served_list}
use Rattle.advertiser_core.specs.Messages.{framed, messages, numbered, value_payload, IsWhole}
use Rattle.advertiser_core.specs.Refusals.{most_messages, message_refusal, AreAccepted}

-- where a message isn't refused, its payload is within the limit
pub short_where_made : (acts : List Act) (payload : List ℕ) → message_refusal acts payload ≡ None → length payload ≤ frame_limit
short_where_made acts payload h = by_tests (nat_eq (length (messages acts)) most_messages) (nat_lt frame_limit (length payload)) refl h
  where
    by_tests : (full long : Bool) → nat_lt frame_limit (length payload) ≡ long → cond full (Some Full) (cond long (Some (OverFrame (capped (length payload)))) None) ≡ None → length payload ≤ frame_limit
    by_tests true long e f = cc
    by_tests false true e f = cc
    by_tests false false e f = false_lt frame_limit (length payload) e

-- and there was room
pub room_where_made : (acts : List Act) (payload : List ℕ) → message_refusal acts payload ≡ None → nat_eq (length (messages acts)) most_messages ≡ false
room_where_made acts payload h = by_test (nat_eq (length (messages acts)) most_messages) h
  where
    by_test : (full : Bool) → cond full (Some Full) (cond (nat_lt frame_limit (length payload)) (Some (OverFrame (capped (length payload)))) None) ≡ None → full ≡ false
    by_test true f = cc
    by_test false f = refl

-- what is advertised isn't refused as a message
pub made_where_served : (acts : List Act) (payload : List ℕ) (served : Bool) → cond served (message_refusal acts payload) (Some NotServed) ≡ None → message_refusal acts payload ≡ None
made_where_served acts payload true h = h
made_where_served acts payload false h = cc

framed_is_whole : (kind : ℕ) (payload : List ℕ) → length payload ≤ frame_limit → IsWhole (framed kind payload)
framed_is_whole kind payload within = record { fits = refl; within = within; stream = refl }

pub all_whole : (acts : List Act) → AreAccepted acts → All IsWhole (messages acts)
all_whole [] accepted = All-nil IsWhole
all_whole (Serve o ∷ acts) accepted = all_whole acts accepted.2
all_whole (Unserve o ∷ acts) accepted = all_whole acts accepted.2
all_whole (Announce ∷ acts) accepted =
    All-push IsWhole (messages acts) (framed 12 (origins_payload (served_list acts))) (all_whole acts accepted.2)
    (framed_is_whole 12 (origins_payload (served_list acts)) (short_where_made acts (origins_payload (served_list acts)) accepted.1))
all_whole (Advertise o value ∷ acts) accepted =
    All-push IsWhole (messages acts) (framed 10 (value_payload o value)) (all_whole acts accepted.2)
    (framed_is_whole 10 (value_payload o value) (short_where_made acts (value_payload o value) (made_where_served acts (value_payload o value) (is_served acts o) accepted.1)))

pub numbered_is_whole : (acts : List Act) (n : ℕ) (message : Message) → AreAccepted acts → numbered (messages acts) n ≡ Some message → IsWhole message
numbered_is_whole acts zero message accepted h = cc
numbered_is_whole acts (suc n) message accepted h =
    subst IsWhole (get_or_from_slice_get (messages acts) n message message h)
    (All-get_or IsWhole (messages acts) n message (slice_get_within (messages acts) n message h) (all_whole acts accepted))

-- a message of an ALTSVC or an ORIGIN frame is kept by whom it reaches
all_kept : (acts : List Act) → All (λ message. is_kept message.head.kind ≡ true) (messages acts)
all_kept [] = All-nil (λ (message : Message). is_kept message.head.kind ≡ true)
all_kept (Serve o ∷ acts) = all_kept acts
all_kept (Unserve o ∷ acts) = all_kept acts
all_kept (Announce ∷ acts) = All-push (λ (message : Message). is_kept message.head.kind ≡ true) (messages acts) (framed 12 (origins_payload (served_list acts))) (all_kept acts) refl
all_kept (Advertise o value ∷ acts) = All-push (λ (message : Message). is_kept message.head.kind ≡ true) (messages acts) (framed 10 (value_payload o value)) (all_kept acts) refl

numbered_is_kept : (acts : List Act) (n : ℕ) (message : Message) → numbered (messages acts) n ≡ Some message → is_kept message.head.kind ≡ true
numbered_is_kept acts zero message h = cc
numbered_is_kept acts (suc n) message h =
    subst (λ (m : Message). is_kept m.head.kind ≡ true) (get_or_from_slice_get (messages acts) n message message h)
    (All-get_or (λ (m : Message). is_kept m.head.kind ≡ true) (messages acts) n message (slice_get_within (messages acts) n message h) (all_kept acts))

pub numbered_is_frame : (acts : List Act) (n : ℕ) (message : Message) → AreAccepted acts → numbered (messages acts) n ≡ Some message → IsFrame (octets_of message.head message.payload) (Kept message.head message.payload)
numbered_is_frame acts n message accepted h =
    let whole = numbered_is_whole acts n message accepted h in
    let low : message.head.stream < 2 ^ 31 = let zero_stream = whole.stream in omega arith in
    subst (IsFrame (octets_of message.head message.payload)) (ap (λ t. cond t (Kept message.head message.payload) (Passed message.head)) (numbered_is_kept acts n message h))
    (written_frame message.head message.payload whole.fits whole.within low)
