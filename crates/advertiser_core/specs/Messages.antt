-- The messages that acts have made: whole frames, numbered 1, 2, 3.
use Rattle.std.specs.Prelude.{◌≡◌, ◌≤◌, ℕ, zero, suc, List, [], ◌∷◌, ◌++◌, length, slice_get, Option, None, Some}
use Rattle.origin_values.specs.declared.origin.Origin.{Origin}
use Rattle.altsvc_grammar.specs.declared.alt_svc.AltSvc.{AltSvc}
use Rattle.altsvc_frame.specs.FrameWritten.{payload_of as alternatives_payload_of}
use Rattle.origin_frame.specs.PayloadWritten.{payload_of as origins_payload, frame_limit}
use Rattle.advertiser_core.specs.declared.message.Message.{Message}
use Rattle.advertiser_core.specs.Acts.{Act, Serve, Unserve, Announce, Advertise}
use Rattle.advertiser_core.specs.ServedList.{served_list}

-- RFC 9113 4.1: a frame of this kind, without flags, on stream 0
abbrev pub framed : ℕ → List ℕ → Message
framed kind payload = record { head = record { length = length payload; kind = kind; flags = 0; stream = 0 }; payload = payload }

-- the payload of an ALTSVC frame on stream 0, which names the origin (RFC 7838 4)
abbrev pub value_payload : Origin → AltSvc → List ℕ
value_payload origin value = alternatives_payload_of (record { origin = Some origin; value = value })

-- an ORIGIN frame (RFC 8336 2)
abbrev pub origins_message : List Origin → Message
origins_message origins = framed 12 (origins_payload origins)

-- an ALTSVC frame (RFC 7838 4)
abbrev pub value_message : Origin → AltSvc → Message
value_message origin value = framed 10 (value_payload origin value)

-- one for each act that announces or advertises, the oldest first; what is announced is what was served then
abbrev pub messages : List Act → List Message
messages [] = []
messages (Serve o ∷ acts) = messages acts
messages (Unserve o ∷ acts) = messages acts
messages (Announce ∷ acts) = messages acts ++ origins_message (served_list acts) ∷ []
messages (Advertise origin value ∷ acts) = messages acts ++ value_message origin value ∷ []

-- the message of a number, from 1
abbrev pub numbered : List Message → ℕ → Option Message
numbered made zero = None
numbered made (suc n) = slice_get made n

-- the head gives the payload's length, which is within the limit (RFC 9113 4.2), and the stream is 0
pub record IsWhole (message : Message) : Type 0 where
  pub fits : length message.payload ≡ message.head.length
  pub within : message.head.length ≤ frame_limit
  pub stream : message.head.stream ≡ 0
